use native.Mathlib.Omega.{arith}
use Rattle.bundle.proofs.FaultLaws.{clear-end, clear-again, clear-little, clear_on}
use mathlib.Core.Path.{ap}
use mathlib.Core.Bool.{not}
use Rattle.bundle.proofs.pass.first_fault.Goals as goal

pub returns-then-k-first : goal.returns-then-k-first
returns-then-k-first c = rw (c.blame.ensures, c.reject_for.ensures) (clear-again c.args.numbers.now c.args.sums.now _ _ _ c.loop-k.invariant (omega arith) c.if-k-first.true)

pub returns-then-not-is_enough : goal.returns-then-not-is_enough
returns-then-not-is_enough c = rw (c.blame-then-not-is_enough.ensures, c.reject_for-then-not-is_enough.ensures) (clear-little c.args.numbers.now c.args.sums.now _ _ _ c.loop-k.invariant (omega arith) c.if-k-first.false c.is_enough.ensures (ap not c.if-not-is_enough.true))

pub loop-k-preserved : goal.loop-k-preserved
loop-k-preserved c = clear_on c.args.numbers.now c.args.sums.now _ _ _ c.loop-k.invariant (omega arith) c.if-k-first.false c.is_enough.ensures (ap not c.if-not-is_enough.false)

pub returns : goal.returns
returns c = clear-end c.args.numbers.now c.args.sums.now _ _ _ c.loop-k.invariant (omega arith)

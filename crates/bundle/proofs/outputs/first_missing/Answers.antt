use native.Mathlib.Omega.{arith}
use Rattle.bundle.proofs.ShownLaws.{passed-end, passed-missing, passed_on}
use mathlib.Core.Path.{◌≡◌, ap}
use mathlib.Core.Bool.{not}
use Rattle.bundle.specs.Shown.{Missing}
use Rattle.bundle.proofs.outputs.first_missing.Goals as goal

pub returns-then-not-is_there : goal.returns-then-not-is_there
unfolding Missing
returns-then-not-is_there c = (omega arith, passed-missing c.args.s.now c.args.ids.now c.args.numbers.now c.args.n c.loop-k.invariant.1 (omega arith) c.is_there.ensures (ap not c.if-not-is_there.true))

pub loop-k-preserved : goal.loop-k-preserved
loop-k-preserved c = (omega arith, passed_on c.args.s.now c.args.ids.now c.args.numbers.now c.args.n c.loop-k.invariant.1 (omega arith) c.is_there.ensures (ap not c.if-not-is_there.false))

pub returns : goal.returns
unfolding Missing
returns c =
    let all : c.loop-k.k ≡ c.args.n = omega arith in
    let e = passed-end c.args.s.now c.args.ids.now c.args.numbers.now c.args.n c.loop-k.invariant.1 (omega arith) in
    (tt, rw all at e)

use borrow.Author.Rules.{rules}
use native.Mathlib.Omega.{arith}
use Rattle.block.proofs.IdsLaws.{differing-start, differing-stop, differing_on, differing-end}
use Rattle.block.proofs.ids.all_differ.Goals as goal

pub loop-i-init : goal.loop-i-init
loop-i-init c = differing-start _ _ (search rules)

pub overflow_mul-i : goal.overflow_mul-i
overflow_mul-i c = omega (arith, c.loop-i.invariant.low)

pub slot-s-requires : goal.slot-s-requires
slot-s-requires c = omega (arith, c.loop-i.invariant.low)

pub bounds-taken-s : goal.bounds-taken-s
bounds-taken-s c = omega (arith, c.loop-i.invariant.long, c.slot-s.ensures.1)

pub repeated-requires : goal.repeated-requires
repeated-requires c = omega (arith, c.loop-i.invariant.low)

pub returns-then-repeated : goal.returns-then-repeated
returns-then-repeated c = differing-stop _ _ _ (omega arith) c.loop-i.invariant c.slot-s.ensures.0 c.repeated.ensures c.if-repeated.true

pub bounds-taken-s-in-loop-i : goal.bounds-taken-s-in-loop-i
bounds-taken-s-in-loop-i c = omega (arith, c.loop-i.invariant.long, c.slot-s.ensures.1)

pub loop-i-preserved : goal.loop-i-preserved
loop-i-preserved c = differing_on _ _ _ (omega arith) c.loop-i.invariant c.slot-s.ensures.0 c.repeated.ensures c.if-repeated.false

pub returns : goal.returns
returns c = differing-end _ _ _ (omega arith) c.loop-i.invariant

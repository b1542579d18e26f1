use native.Mathlib.Omega.{arith}
use Rattle.stream.proofs.Outputs.{outputs-none, outputs_on}
use Rattle.stream.proofs.walk.whole_outputs.Goals as goal

pub loop-left-init : goal.loop-left-init
loop-left-init c = (omega arith, c.requires.from_le_end, outputs-none _ _ _ _ _)

pub returns-in_default : goal.returns-in_default
returns-in_default c = c.loop-left.invariant

pub overflow_add-place : goal.overflow_add-place
overflow_add-place c = let s = c.in-Some.ensures in omega (arith, s.2, c.requires.end_in_bounds)

pub loop-left-preserved : goal.loop-left-preserved
loop-left-preserved c =
    let s = c.in-Some.ensures in
    (omega (arith, c.loop-left.invariant.0), s.2, outputs_on _ _ _ _ _ _ _ _ c.loop-left.invariant.0 c.requires.end_in_bounds c.loop-left-test.true s c.loop-left.invariant.2)

pub returns-after-loop-left : goal.returns-after-loop-left
returns-after-loop-left c = c.loop-left.invariant

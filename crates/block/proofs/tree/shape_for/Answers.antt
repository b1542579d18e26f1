use native.Mathlib.Omega.{arith}
use mathlib.Core.Path.{refl}
use Rattle.block.proofs.HeapLaws.{shape_on, shape_end}
use Rattle.block.proofs.tree.shape_for.Goals as goal

pub loop-width-init : goal.loop-width-init
loop-width-init c = (refl, (λ g h. absurd (omega arith)), omega arith)

pub loop-width-preserved : goal.loop-width-preserved
loop-width-preserved c = let x = shape_on _ _ _ c.loop-width.invariant.0 c.loop-width.invariant.1 c.loop-width-test.true in (x.0, x.1, omega arith)

pub returns : goal.returns
returns c = shape_end _ _ _ c.loop-width.invariant.0 c.loop-width.invariant.1 c.loop-width-test.false

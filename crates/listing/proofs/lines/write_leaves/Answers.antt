use mathlib.Core.Path.{refl, sym, ◌∙◌}
use native.Mathlib.Omega.{arith}
use Rattle.listing.proofs.WalkLaws.{leaves-start, leaves-more, leaves-refused, leaves-done}
use Rattle.listing.proofs.lines.write_leaves.Goals as goal

pub loop-init : goal.loop-init
loop-init c = (leaves-start _ _ _ _, omega arith, refl)

pub returns-in_default : goal.returns-in_default
returns-in_default c = sym (c.loop.invariant.0 ∙ leaves-refused _ _ _ _ _ (omega arith) (sym c.in_default.ensures))

pub loop-preserved : goal.loop-preserved
loop-preserved c = (
  c.loop.invariant.0 ∙ leaves-more _ _ _ _ _ (omega arith) (sym c.in-Ok.ensures) c.write_leaf-at.ensures,
  omega arith,
  c.write_leaf-at.auto.out ∙ c.loop.invariant.2,
)

pub returns-after-loop : goal.returns-after-loop
returns-after-loop c = sym (c.loop.invariant.0 ∙ leaves-done _ _ _ _ _ (omega arith))

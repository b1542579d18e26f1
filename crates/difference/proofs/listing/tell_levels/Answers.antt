use Rattle.difference.proofs.MergeLaws.{walk_end, walk-high, walk_on, max_higher}
use native.Mathlib.Nat.{sub-zero}
use native.Mathlib.Omega.{arith}
use mathlib.Core.Path.{refl, sym, ◌∙◌}
use Rattle.difference.proofs.listing.tell_levels.Goals as goal

pub loop-level-init : goal.loop-level-init
loop-level-init c = (simp sub-zero, omega arith, refl)

pub loop-level-preserved : goal.loop-level-preserved
loop-level-preserved c = (
  c.loop-level.invariant.0 ∙ walk_on _ _ _ _ _ _ _ _ _ _ _ _ _ _ _ _ _ _ _ (omega arith) refl refl c.gather_level-a.ensures.0 c.gather_level-b.ensures.0 c.tell_level-at.ensures,
  omega arith,
  c.tell_level-at.auto.out ∙ c.loop-level.invariant.2,
)

pub shape_of-out : goal.shape_of-out
shape_of-out c = c.loop-level.invariant.2

pub returns : goal.returns
returns c = sym (walk-high _ _ _ _ _ _ _ _ _ _ _ _ (c.max-level-end.ensures ∙ max_higher _ _) ∙ c.loop-level.invariant.0 ∙ walk_end _ _ _ _ _ _ _ _ _ _ _ _ (omega arith))

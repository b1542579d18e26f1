use mathlib.Core.Path.{refl, sym, ap, ◌∙◌}
use native.Mathlib.Omega.{arith}
use Rattle.listing.specs.Walk.{Walk}
use Rattle.listing.proofs.WalkLaws.{levels-start, levels-more, levels-done}
use Rattle.listing.proofs.lines.write_levels.Goals as goal

pub loop-level-init : goal.loop-level-init
loop-level-init c = (levels-start _ _ _ _, omega arith, refl)

pub loop-level-preserved : goal.loop-level-preserved
loop-level-preserved c = (
  c.loop-level.invariant.0 ∙ levels-more _ _ _ _ _ (omega arith) c.write_level-step.ensures,
  omega arith,
  c.write_level-step.auto.out ∙ c.loop-level.invariant.2,
)

pub returns : goal.returns
returns c = ap (λ (w : Walk). w.buffer) (sym (c.loop-level.invariant.0 ∙ levels-done _ _ _ _ _ (omega arith)))

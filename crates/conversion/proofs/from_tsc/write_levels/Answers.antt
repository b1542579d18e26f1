use mathlib.Core.Path.{sym, refl, ◌∙◌}
use native.Mathlib.Omega.{arith}
use Rattle.conversion.proofs.ConvertLaws.{writing_start, writing-end, writing_short, writing_on, wrote_level}
use Rattle.conversion.proofs.from_tsc.write_levels.Goals as goal

pub loop-init : goal.loop-init
loop-init c = (writing_start _ _ _ _ _, omega arith, refl)

pub shape_of-out-in_default : goal.shape_of-out-in_default
shape_of-out-in_default c = c.loop.invariant.2

pub returns-in_default : goal.returns-in_default
returns-in_default c = writing_short _ _ _ _ _ _ _ _ _ c.loop.invariant.0 (omega arith) (sym c.in_default.ensures)

pub loop-preserved : goal.loop-preserved
loop-preserved c = (writing_on _ _ _ _ _ _ _ _ _ c.loop.invariant.0 (omega arith) (sym c.in-Ok.ensures) _ (wrote_level _ _ _ c.put-next.ensures c.write_sibling-next.ensures), omega arith, c.write_sibling-next.auto.out ∙ c.put-next.auto.out ∙ c.loop.invariant.2)

pub shape_of-out : goal.shape_of-out
shape_of-out c = c.loop.invariant.2

pub returns : goal.returns
returns c = writing-end _ _ _ _ _ _ _ _ _ c.loop.invariant.0 (omega arith)

use mathlib.Core.Path.{sym, subst}
use Rattle.spv.specs.PositionFits.{PositionFits}
use Rattle.spv.proofs.PositionFitsLaws.{low-sibling}
use Rattle.spv.proofs.climb.layer_of.Goals as goal

pub sibling_at-requires : goal.sibling_at-requires
sibling_at-requires c = λ low. subst (PositionFits c.args.layer) (sym c.sibling_position.ensures) (low-sibling _ _ low c.requires)

use Rattle.merging.proofs.LevelsLaws.{wrote_level, tally_counts}
use mathlib.Core.Path.{◌∙◌}
use Rattle.merging.proofs.joining.put_level.Goals as goal

pub shape_of-out : goal.shape_of-out
shape_of-out c = c.put_leaves.auto.out ∙ c.write_varint-next.auto.out

pub returns : goal.returns
returns c = wrote_level _ _ (tally_counts _ _ c.tally_level-l.ensures.0) c.write_varint-next.ensures c.put_leaves.ensures

use Rattle.block.proofs.LeavesLaws.{wrote_level}
use Rattle.block.proofs.level.write_level.Goals as goal

pub returns : goal.returns
returns c = wrote_level _ _ _ _ _ _ _ c.level_tally-tally.ensures.0 c.write_varint-next.ensures c.write_leaves.ensures

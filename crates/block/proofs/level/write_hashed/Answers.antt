use Rattle.block.proofs.LeavesLaws.{wrote_hashed}
use Rattle.block.proofs.level.write_hashed.Goals as goal

pub returns : goal.returns
returns c = wrote_hashed _ _ _ c.node_at-hash.ensures c.write_varint-next.ensures c.put-next.ensures c.write.ensures

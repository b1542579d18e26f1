use Rattle.encoding.proofs.BufferLaws.{wrote_then, write_cons}
use Rattle.merging.proofs.merging.put_path.Goals as goal

pub returns : goal.returns
returns c = wrote_then _ _ _ c.write_varint-block.ensures (write_cons _ _ _ c.put-height.ensures c.put_levels.ensures)

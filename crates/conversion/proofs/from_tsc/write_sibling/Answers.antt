use Rattle.conversion.proofs.ConvertLaws.{wrote_sibling}
use Rattle.conversion.proofs.from_tsc.write_sibling.Goals as goal

pub returns : goal.returns
returns c = wrote_sibling _ _ _ c.sibling_position.ensures c.write_varint-next.ensures c.write_node.ensures

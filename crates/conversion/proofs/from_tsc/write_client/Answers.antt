use Rattle.conversion.proofs.ConvertLaws.{wrote_client-leaf}
use Rattle.conversion.proofs.from_tsc.write_client.Goals as goal

pub returns : goal.returns
returns c = wrote_client-leaf _ _ _ c.write_varint-next.ensures c.put-next.ensures c.write.ensures

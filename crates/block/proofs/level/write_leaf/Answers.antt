use Rattle.block.proofs.LeavesLaws.{text-plain, text-copy, text-client}
use Rattle.block.proofs.level.write_leaf.Goals as goal

pub returns-in-Plain : goal.returns-in-Plain
returns-in-Plain c = text-plain _ _ _ _ _ _ c.in-Plain.is c.write_hashed.ensures

pub returns-in-Copy : goal.returns-in-Copy
returns-in-Copy c = text-copy _ _ _ _ _ _ c.in-Copy.is c.write_varint-next.ensures c.put.ensures

pub returns-in-Client : goal.returns-in-Client
returns-in-Client c = text-client _ _ _ _ _ _ c.in-Client.is c.write_hashed-in-Client.ensures

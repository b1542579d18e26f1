use mathlib.Core.Logic.{inl, inr}
use Rattle.conversion.proofs.ConvertLaws.{wrote_plain, wrote_client, wrote_copy}
use Rattle.conversion.proofs.from_tsc.write_node.Goals as goal

pub returns-in-Plain : goal.returns-in-Plain
returns-in-Plain c = elim c.in-Plain.is [ inl e ↦ wrote_plain _ e _ c.write_hash.ensures | inr e ↦ wrote_client _ e _ c.write_hash.ensures ]

pub returns-in-Copy : goal.returns-in-Copy
returns-in-Copy c = wrote_copy _ c.in-Copy.is _ c.put.ensures

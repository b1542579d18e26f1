use mathlib.Core.Logic.{inl, inr}
use native.Mathlib.Omega.{arith}
use Rattle.conversion.proofs.ConvertLaws.{size-plain, size-client, size-copy}
use Rattle.conversion.proofs.from_tsc.node_size.Goals as goal

pub returns-in-Plain : goal.returns-in-Plain
returns-in-Plain c = elim c.in-Plain.is [ inl e ↦ (λ s. size-plain s e.1, omega arith) | inr e ↦ (λ s. size-client s e.1, omega arith) ]

pub returns-in-Copy : goal.returns-in-Copy
returns-in-Copy c = (λ s. size-copy s c.in-Copy.is, omega arith)

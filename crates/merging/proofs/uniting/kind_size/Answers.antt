use Rattle.std.proofs.Common.{arith}
use Rattle.merging.proofs.TallyLaws.{size-copy, size-hash}
use Rattle.merging.proofs.uniting.kind_size.Goals as goal

pub returns-in-Some : goal.returns-in-Some
returns-in-Some c = (λ s. size-hash s _ c.in-Some.ensures, omega arith)

pub returns-in-None : goal.returns-in-None
returns-in-None c = (λ s. size-copy s _ c.in-None.ensures, omega arith)

use Rattle.std.proofs.Common.{sym}
use Rattle.spv.specs.Prove.{prove_by}
use Rattle.spv.proofs.ResultLaws.{refused_on}
use Rattle.spv.proofs.prove.prove_tsc.Goals as goal

pub returns-in_err-claim : goal.returns-in_err-claim
unfolding prove_by
returns-in_err-claim c = refused_on _ _ _ _ c.from_residual.ensures.1 (sym c.in_err-claim.ensures)

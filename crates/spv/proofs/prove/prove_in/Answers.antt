use Rattle.std.proofs.Common.{sym, ap}
use Rattle.spv.specs.Prove.{prove_by, prove}
use Rattle.spv.proofs.ResultLaws.{refused_on}
use Rattle.spv.proofs.prove.prove_in.Goals as goal

pub returns-in_err-claim : goal.returns-in_err-claim
unfolding prove_by
returns-in_err-claim c = refused_on _ _ _ _ c.from_residual.ensures.1 (sym (ap prove c.in_err-claim.ensures))

use Rattle.std.proofs.Common.{sym, ◌∙◌}
use Rattle.std.proofs.lemmas.Result.{err_from_is_err_and}
use Rattle.spv.specs.Prove.{prove_by}
use Rattle.spv.proofs.ShapesLaws.{told_unproved, claim_accepted}
use Rattle.spv.proofs.prove.accept.Goals as goal

pub returns-in_err-claim : goal.returns-in_err-claim
unfolding prove_by
returns-in_err-claim c =
    let p = err_from_is_err_and c.from_residual.result c.from_residual.ensures.1 in
    rw (p.1, p.2) (sym c.in_err-claim.ensures)

pub returns-in_err-proved : goal.returns-in_err-proved
returns-in_err-proved c =
    let p = err_from_is_err_and c.from_residual-in_err-proved.result c.from_residual-in_err-proved.ensures.1 in
    rw (p.1, p.2) (sym c.in_ok-claim.ensures ∙ told_unproved _ _ c.in_err-proved.ensures)

pub returns : goal.returns
returns c = sym c.in_ok-claim.ensures ∙ claim_accepted _ _ _ c.in_ok-proved.ensures

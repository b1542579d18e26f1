use Rattle.std.proofs.Common.{sym, ◌∙◌, ap}
use Rattle.spv.proofs.ResultLaws.{refused_on}
use Rattle.spv.proofs.CompareLaws.{prove-stop, prove-root, prove-differ}
use Rattle.spv.specs.Shapes.{opened, proved_of}
use Rattle.spv.proofs.ShapesLaws.{told-root, told-stop}
use Rattle.spv.proofs.prove.prove_claim.Goals as goal

pub returns-in_err-root : goal.returns-in_err-root
unfolding opened
returns-in_err-root c = refused_on _ _ _ _ c.from_residual.ensures.1 (prove-stop _ _ _ _ _ _ (told-stop _ _ c.in_err-root.ensures))

pub returns-then-not-hits_target : goal.returns-then-not-hits_target
unfolding opened
returns-then-not-hits_target c =
    rw c.reject_for.ensures
    (sym (ap proved_of (prove-differ _ _ _ _ _ c.in_ok-root.root (told-root _ _ c.in_ok-root.ensures) (sym c.hits_target.ensures ∙ c.if-not-hits_target.true))))

pub returns : goal.returns
unfolding opened
returns c = sym (ap proved_of (prove-root _ _ _ _ _ c.in_ok-root.root (told-root _ _ c.in_ok-root.ensures) (sym c.hits_target.ensures ∙ c.if-not-hits_target.false)))

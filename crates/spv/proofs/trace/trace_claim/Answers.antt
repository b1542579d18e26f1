use Rattle.std.proofs.Common.{Ok, sym, ◌∙◌, ap}
use Rattle.spv.proofs.ResultLaws.{refused_on}
use Rattle.spv.proofs.CompareLaws.{prove-stop, prove-root, prove-differ}
use Rattle.spv.specs.Shapes.{opened}
use Rattle.spv.proofs.ShapesLaws.{told-root, told-stop}
use Rattle.spv.specs.Trace.{traced_of}
use Rattle.spv.proofs.TraceLaws.{traced_root}
use Rattle.spv.proofs.trace.trace_claim.Goals as goal

pub returns-in_err-trail : goal.returns-in_err-trail
unfolding opened
returns-in_err-trail c = refused_on _ _ _ _ c.from_residual.ensures.1 (prove-stop _ _ _ _ _ _ (told-stop _ _ c.in_err-trail.ensures.end))

pub returns-then-not-hits_target : goal.returns-then-not-hits_target
unfolding opened
returns-then-not-hits_target c =
    rw c.reject_for.ensures
    (sym (ap traced_of (prove-differ _ _ _ _ _ c.in_ok-trail.trail.root (told-root _ _ c.in_ok-trail.ensures.end) (sym c.hits_target.ensures ∙ c.if-not-hits_target.true))))

pub returns : goal.returns
unfolding opened
returns c =
    ap Ok (traced_root _ _ _ _ _ _ _ c.in_ok-trail.ensures.text)
    ∙ sym (ap traced_of (prove-root _ _ _ _ _ c.in_ok-trail.trail.root (told-root _ _ c.in_ok-trail.ensures.end) (sym c.hits_target.ensures ∙ c.if-not-hits_target.false)))

use mathlib.Core.Path.{sym, ◌∙◌}
use Rattle.format.proofs.ParseLaws.{passed_on, go, stop, each-ok, each-fault}
use Rattle.format.specs.Transaction.{items_of}
use Rattle.format.specs.Tsc.{tsc_up_to}
use Rattle.format.proofs.TscLaws.{tsc_head}
use Rattle.format.proofs.tsc.tsc_at.Goals as goal

pub returns-in_err-flags : goal.returns-in_err-flags
unfolding tsc_up_to
returns-in_err-flags c =
    passed_on _ _ c.from_residual.ensures.1 ∙ (sym (stop _ _ (sym c.in_err-flags.ensures)))

pub returns-in_err-index : goal.returns-in_err-index
unfolding tsc_up_to
returns-in_err-index c =
    passed_on _ _ c.from_residual-in_err-index.ensures.1 ∙ (sym (go _ _ (sym c.in_ok-flags.ensures)
    ∙ stop _ _ (sym c.in_err-index.ensures)))

pub returns-in_err-subject : goal.returns-in_err-subject
unfolding tsc_up_to
returns-in_err-subject c =
    passed_on _ _ c.from_residual-in_err-subject.ensures.1 ∙ (sym (go _ _ (sym c.in_ok-flags.ensures)
    ∙ go _ _ (sym c.in_ok-index.ensures)
    ∙ stop _ _ (sym c.in_err-subject.ensures)))

pub returns-in_err-target : goal.returns-in_err-target
unfolding tsc_up_to
returns-in_err-target c =
    passed_on _ _ c.from_residual-in_err-target.ensures.1 ∙ (sym (go _ _ (sym c.in_ok-flags.ensures)
    ∙ go _ _ (sym c.in_ok-index.ensures)
    ∙ go _ _ (sym c.in_ok-subject.ensures)
    ∙ stop _ _ (sym c.in_err-target.ensures)))

pub returns-in_err-items : goal.returns-in_err-items
unfolding tsc_up_to
returns-in_err-items c =
    passed_on _ _ c.from_residual-in_err-items.ensures.1 ∙ (sym (go _ _ (sym c.in_ok-flags.ensures)
    ∙ go _ _ (sym c.in_ok-index.ensures)
    ∙ go _ _ (sym c.in_ok-subject.ensures)
    ∙ go _ _ (sym c.in_ok-target.ensures)
    ∙ stop _ _ (each-fault items_of _ (sym c.in_err-items.ensures))))

pub returns : goal.returns
unfolding tsc_up_to
returns c =
    sym (go _ _ (sym c.in_ok-flags.ensures)
    ∙ go _ _ (sym c.in_ok-index.ensures)
    ∙ go _ _ (sym c.in_ok-subject.ensures)
    ∙ go _ _ (sym c.in_ok-target.ensures)
    ∙ go _ _ (each-ok items_of _ (sym c.in_ok-items.ensures)).1
    ∙ tsc_head _ _ _ _ _ _ (each-ok items_of _ (sym c.in_ok-items.ensures)).2)

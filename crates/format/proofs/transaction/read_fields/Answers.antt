use mathlib.Core.Path.{sym, ◌∙◌}
use Rattle.format.proofs.ParseLaws.{passed_on, go, stop, each-ok, each-fault}
use Rattle.format.specs.Transaction.{items_of, fields_by}
use Rattle.format.proofs.TransactionLaws.{tx_head}
use Rattle.format.proofs.transaction.read_fields.Goals as goal

pub returns-in_err-start : goal.returns-in_err-start
unfolding fields_by
returns-in_err-start c =
    passed_on _ _ c.from_residual.ensures.1 ∙ (sym (stop _ _ (sym c.in_err-start.ensures)))

pub returns-in_err-inputs : goal.returns-in_err-inputs
unfolding fields_by
returns-in_err-inputs c =
    passed_on _ _ c.from_residual-in_err-inputs.ensures.1 ∙ (sym (go _ _ (sym c.in_ok-start.ensures)
    ∙ stop _ _ (each-fault items_of _ (sym c.in_err-inputs.ensures))))

pub returns-in_err-outputs : goal.returns-in_err-outputs
unfolding fields_by
returns-in_err-outputs c =
    passed_on _ _ c.from_residual-in_err-outputs.ensures.1 ∙ (sym (go _ _ (sym c.in_ok-start.ensures)
    ∙ go _ _ (each-ok items_of _ (sym c.in_ok-inputs.ensures)).1
    ∙ stop _ _ (each-fault items_of _ (sym c.in_err-outputs.ensures))))

pub returns-in_err-next : goal.returns-in_err-next
unfolding fields_by
returns-in_err-next c =
    passed_on _ _ c.from_residual-in_err-next.ensures.1 ∙ (sym (go _ _ (sym c.in_ok-start.ensures)
    ∙ go _ _ (each-ok items_of _ (sym c.in_ok-inputs.ensures)).1
    ∙ go _ _ (each-ok items_of _ (sym c.in_ok-outputs.ensures)).1
    ∙ stop _ _ (sym c.in_err-next.ensures)))

pub returns : goal.returns
unfolding fields_by
returns c =
    sym (go _ _ (sym c.in_ok-start.ensures)
    ∙ go _ _ (each-ok items_of _ (sym c.in_ok-inputs.ensures)).1
    ∙ go _ _ (each-ok items_of _ (sym c.in_ok-outputs.ensures)).1
    ∙ go _ _ (sym c.in_ok-next.ensures)
    ∙ tx_head _ _ _ _ _ (each-ok items_of _ (sym c.in_ok-inputs.ensures)).2 (each-ok items_of _ (sym c.in_ok-outputs.ensures)).2)

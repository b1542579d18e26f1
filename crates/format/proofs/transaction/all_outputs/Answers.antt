use mathlib.Core.Path.{sym, ◌∙◌}
use lib.ListN.{length}
use Rattle.format.proofs.ParseLaws.{passed_on, go, stop, each-ok, each-fault}
use Rattle.format.specs.Transaction.{list_field}
use Rattle.format.proofs.TransactionLaws.{list_head}
use Rattle.format.proofs.transaction.all_outputs.Goals as goal

pub returns-in_err-wanted : goal.returns-in_err-wanted
unfolding list_field
returns-in_err-wanted c =
    passed_on _ _ c.from_residual.ensures.1 ∙ (sym (stop _ _ (sym c.in_err-wanted.ensures)))

pub returns-in_err-count : goal.returns-in_err-count
unfolding list_field
returns-in_err-count c =
    passed_on _ _ c.from_residual-in_err-count.ensures.1 ∙ (sym (go _ _ (sym c.in_ok-wanted.ensures)
    ∙ stop _ _ (each-fault length _ (sym c.in_err-count.ensures))))

pub returns : goal.returns
unfolding list_field
returns c =
    sym (go _ _ (sym c.in_ok-wanted.ensures)
    ∙ go _ _ (each-ok length _ (sym c.in_ok-count.ensures)).1
    ∙ list_head _ _ _ _ (each-ok length _ (sym c.in_ok-count.ensures)).2)

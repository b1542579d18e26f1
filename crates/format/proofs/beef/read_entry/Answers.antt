use mathlib.Core.Path.{sym, ◌∙◌}
use Rattle.format.proofs.ParseLaws.{passed_on, go, stop, each-ok, each-fault}
use Rattle.format.specs.Transaction.{tx_head_of}
use Rattle.format.specs.Beef.{entry_field}
use Rattle.format.proofs.BeefLaws.{entry_head}
use Rattle.format.proofs.beef.read_entry.Goals as goal

pub returns-in_err-transaction : goal.returns-in_err-transaction
unfolding entry_field
returns-in_err-transaction c =
    passed_on _ _ c.from_residual.ensures.1 ∙ (sym (stop _ _ (each-fault tx_head_of _ (sym c.in_err-transaction.ensures))))

pub returns-in_err-anchor : goal.returns-in_err-anchor
unfolding entry_field
returns-in_err-anchor c =
    passed_on _ _ c.from_residual-in_err-anchor.ensures.1 ∙ (sym (go _ _ (each-ok tx_head_of _ (sym c.in_ok-transaction.ensures)).1
    ∙ stop _ _ (sym c.in_err-anchor.ensures)))

pub returns : goal.returns
unfolding entry_field
returns c =
    sym (go _ _ (each-ok tx_head_of _ (sym c.in_ok-transaction.ensures)).1
    ∙ go _ _ (sym c.in_ok-anchor.ensures)
    ∙ entry_head _ _ _ (each-ok tx_head_of _ (sym c.in_ok-transaction.ensures)).2)

use mathlib.Core.Path.{sym, ◌∙◌}
use Rattle.format.proofs.ParseLaws.{passed_on}
use Rattle.format.proofs.TransactionLaws.{tx_unread, tx_nodes, tx_other, head_forward}
use Rattle.format.proofs.transaction.tx_by.Goals as goal

pub returns-in_err-head : goal.returns-in_err-head
returns-in_err-head c = passed_on _ _ c.from_residual.ensures.1 ∙ (sym (tx_unread _ _ _ (sym c.in_err-head.ensures)))

pub overflow_sub-head : goal.overflow_sub-head
overflow_sub-head c = head_forward _ _ _ (sym c.in_ok-head.ensures)

pub returns-then-head-eq-NODE_PAIR : goal.returns-then-head-eq-NODE_PAIR
returns-then-head-eq-NODE_PAIR c = sym (tx_nodes _ _ _ (sym c.in_ok-head.ensures) c.if-head-eq-NODE_PAIR.true)

pub returns : goal.returns
returns c = sym (tx_other _ _ _ (sym c.in_ok-head.ensures) c.if-head-eq-NODE_PAIR.false)

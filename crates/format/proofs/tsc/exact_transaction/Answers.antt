use mathlib.Core.Path.{sym, ◌∙◌}
use Rattle.format.proofs.ParseLaws.{passed_on, each-ok, each-fault}
use Rattle.format.specs.Transaction.{tx_head_of}
use Rattle.format.proofs.TscLaws.{exact_short, exact_fault, exact_other, exact_read}
use Rattle.format.proofs.tsc.exact_transaction.Goals as goal

pub returns-in_err-start : goal.returns-in_err-start
returns-in_err-start c = passed_on _ _ c.from_residual.ensures.1 ∙ sym (exact_short _ _ _ (sym c.in_err-start.ensures))

pub returns-in_default : goal.returns-in_default
returns-in_default c = sym (exact_fault _ _ _ (sym c.in_ok-start.ensures) (each-fault tx_head_of _ (sym c.in_default.ensures)))

pub returns-then-next-end : goal.returns-then-next-end
returns-then-next-end c = sym (exact_other _ _ _ (sym c.in_ok-start.ensures) (each-ok tx_head_of _ (sym c.in-Ok.ensures)).1 c.if-next-end.true)

pub returns : goal.returns
returns c =
    let t = each-ok tx_head_of _ (sym c.in-Ok.ensures) in
    sym (exact_read _ _ _ (sym c.in_ok-start.ensures) t.1 t.2 c.if-next-end.false)

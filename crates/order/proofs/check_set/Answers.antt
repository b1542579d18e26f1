use Rattle.std.proofs.lemmas.Result.{err_from_is_err_and}
use mathlib.Core.Path.{refl, sym, ◌∙◌}
use Rattle.order.proofs.SetAnswers.{opened-told, check-refused, check_made, answer_refused, answer_fails, answer_passes}
use Rattle.order.proofs.check_set.Goals as goal

pub returns-in_err-open_set : goal.returns-in_err-open_set
returns-in_err-open_set c =
    let p = err_from_is_err_and c.from_residual.result c.from_residual.ensures.1 in
    rw (p.1, p.2) (answer_refused (check-refused _ _ c.in_err-open_set.ensures _) refl)

pub fill_parents-requires : goal.fill_parents-requires
fill_parents-requires c =
    let o = opened-told _ _ _ c.in_ok-open_set.ensures in
    o.few

pub check_order-requires : goal.check_order-requires
check_order-requires c =
    let o = opened-told _ _ _ c.in_ok-open_set.ensures in
    o.few

pub returns-then-not-check_order : goal.returns-then-not-check_order
returns-then-not-check_order c =
    let o = opened-told _ _ _ c.in_ok-open_set.ensures in
    answer_fails _ _ (check_made _ _ _ o c.fill_parents.ensures c.no_bytes-matrix.ensures _) (sym c.check_order.ensures ∙ c.if-not-check_order.true) c.refuse.ensures

pub returns : goal.returns
returns c =
    let o = opened-told _ _ _ c.in_ok-open_set.ensures in
    answer_passes _ _ (check_made _ _ _ o c.fill_parents.ensures c.no_bytes-matrix.ensures _) (sym c.check_order.ensures ∙ c.if-not-check_order.false)

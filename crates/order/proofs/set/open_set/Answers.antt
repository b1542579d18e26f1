use mathlib.Core.Path.{sym, ◌∙◌}
use Rattle.std.proofs.lemmas.Result.{err_from_is_err_and}
use Rattle.order.proofs.SetReadLaws.{opened_over, opened-long, opened-refused, answers-again, answers_new}
use Rattle.order.proofs.set.open_set.Goals as goal

pub returns-then-count-gt-MOST : goal.returns-then-count-gt-MOST
returns-then-count-gt-MOST c = rw c.refuse.ensures (sym (opened_over _ _ c.if-count-gt-MOST.true))

pub returns-then-s-gt-MAX_INPUT : goal.returns-then-s-gt-MAX_INPUT
returns-then-s-gt-MAX_INPUT c = rw c.refuse-then-s-gt-MAX_INPUT.ensures (sym (opened-long _ _ c.if-count-gt-MOST.false c.if-s-gt-MAX_INPUT.true))

pub returns-in_err-read_places : goal.returns-in_err-read_places
returns-in_err-read_places c =
    let p = err_from_is_err_and c.from_residual.result c.from_residual.ensures.1 in
    rw (p.1, p.2) (sym (opened-refused _ _ c.if-count-gt-MOST.false c.if-s-gt-MAX_INPUT.false (sym c.in_err-read_places.ensures)))

pub returns-then-not-all_new : goal.returns-then-not-all_new
returns-then-not-all_new c =
    rw c.refuse-then-not-all_new.ensures
    (answers-again _ _ c.if-count-gt-MOST.false c.if-s-gt-MAX_INPUT.false _ _ c.in_ok-read_places.ensures c.write_ids.ensures (sym c.all_new.ensures ∙ c.if-not-all_new.true))

pub returns : goal.returns
returns c = answers_new _ _ c.if-count-gt-MOST.false c.if-s-gt-MAX_INPUT.false _ _ c.in_ok-read_places.ensures c.write_ids.ensures (sym c.all_new.ensures ∙ c.if-not-all_new.false)

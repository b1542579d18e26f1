use mathlib.Core.Path.{sym, ◌∙◌}
use Rattle.format.proofs.ParseLaws.{passed_on, whole_too_long, whole-refused, whole_extra, whole-read}
use Rattle.format.proofs.tsc.read_tsc.Goals as goal

pub returns-in_err-check_size : goal.returns-in_err-check_size
returns-in_err-check_size c =
    let long = c.in_err-check_size.ensures in
    passed_on _ _ c.from_residual.ensures.1 ∙ rw long.1 (sym (whole_too_long _ _ _ long.0))

pub returns-in_err-head : goal.returns-in_err-head
returns-in_err-head c =
    passed_on _ _ c.from_residual-in_err-head.ensures.1 ∙ sym (whole-refused _ _ _ c.in_ok-check_size.ensures (sym c.in_err-head.ensures))

pub returns-in_err-check_end : goal.returns-in_err-check_end
returns-in_err-check_end c =
    let more = c.in_err-check_end.ensures in
    passed_on _ _ c.from_residual-in_err-check_end.ensures.1 ∙ rw more.1 (sym (whole_extra _ _ _ c.in_ok-check_size.ensures (sym c.in_ok-head.ensures) more.0))

pub returns : goal.returns
returns c = sym (whole-read _ _ _ c.in_ok-check_size.ensures (sym c.in_ok-head.ensures) c.in_ok-check_end.ensures)

use mathlib.Core.Path.{sym, ◌∙◌}
use Rattle.format.proofs.ParseLaws.{passed_on}
use Rattle.format.proofs.BeefLaws.{close_refused, close_extra, close_read}
use Rattle.format.proofs.beef.close_beef.Goals as goal

pub returns-in_err-items : goal.returns-in_err-items
returns-in_err-items c = passed_on _ _ c.from_residual.ensures.1 ∙ sym (close_refused _ _ _ _ (sym c.in_err-items.ensures))

pub returns-in_err-check_end : goal.returns-in_err-check_end
returns-in_err-check_end c =
    let more = c.in_err-check_end.ensures in
    passed_on _ _ c.from_residual-in_err-check_end.ensures.1 ∙ rw more.1 (sym (close_extra _ _ _ _ (sym c.in_ok-items.ensures) more.0))

pub returns : goal.returns
returns c = sym (close_read _ _ _ _ (sym c.in_ok-items.ensures) c.in_ok-check_end.ensures)

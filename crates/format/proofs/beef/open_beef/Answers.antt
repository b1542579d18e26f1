use mathlib.Core.Path.{sym, ◌∙◌}
use Rattle.format.proofs.ParseLaws.{passed_on}
use Rattle.format.proofs.BeefLaws.{open_long, open_fits}
use Rattle.format.proofs.beef.open_beef.Goals as goal

pub returns-in_err-check_size : goal.returns-in_err-check_size
returns-in_err-check_size c =
    let long = c.in_err-check_size.ensures in
    passed_on _ _ c.from_residual.ensures.1 ∙ rw long.1 (sym (open_long _ long.0))

pub returns : goal.returns
returns c = c.read_version.ensures ∙ sym (open_fits _ c.in_ok-check_size.ensures)

use mathlib.Core.Path.{sym, ◌∙◌}
use Rattle.format.proofs.ParseLaws.{passed_on}
use Rattle.format.proofs.BeefLaws.{beef-unopened, beef-opened}
use Rattle.format.proofs.beef.read_beef.Goals as goal

pub returns-in_err-bumps_at : goal.returns-in_err-bumps_at
returns-in_err-bumps_at c = passed_on _ _ c.from_residual.ensures.1 ∙ sym (beef-unopened _ _ (sym c.in_err-bumps_at.ensures))

pub returns-in_err-bumps : goal.returns-in_err-bumps
returns-in_err-bumps c = passed_on _ _ c.from_residual-in_err-bumps.ensures.1 ∙ sym (beef-opened _ _ (sym c.in_ok-bumps_at.ensures) c.in_err-bumps.ensures)

pub returns : goal.returns
returns c = c.close_beef.ensures ∙ sym (beef-opened _ _ (sym c.in_ok-bumps_at.ensures) c.in_ok-bumps.ensures)

use mathlib.Core.Path.{sym, ◌∙◌}
use Rattle.format.proofs.ParseLaws.{passed_on, go, stop}
use Rattle.format.specs.Beef.{bumps_up_to}
use Rattle.format.proofs.BeefLaws.{bump-count-told}
use Rattle.format.proofs.bumps.keep_bumps.Goals as goal

pub returns-in_err-count : goal.returns-in_err-count
unfolding bumps_up_to
returns-in_err-count c = passed_on _ _ c.from_residual.ensures.1 ∙ sym (stop _ _ (sym c.in_err-count.ensures))

pub gather_bumps-requires : goal.gather_bumps-requires
gather_bumps-requires c = bump-count-told _ _ (sym c.in_ok-count.ensures)

pub returns : goal.returns
unfolding bumps_up_to
returns c = c.gather_bumps.ensures ∙ sym (go _ _ (sym c.in_ok-count.ensures))

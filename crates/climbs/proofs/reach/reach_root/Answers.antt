use Rattle.std.proofs.Common.{sym, ap, ◌∙◌}
use Rattle.std.specs.Result.{is_ok}
use Rattle.climbs.proofs.ReachLaws.{accepts, reaches_short, reaches-read}
use Rattle.climbs.proofs.reach.reach_root.Goals as goal

pub returns-in_default : goal.returns-in_default
returns-in_default c = reaches_short _ _ _ _ _ (sym c.in_default.ensures)

pub returns : goal.returns
returns c = c.is_ok.ensures.value ∙ ap is_ok c.check_many.ensures ∙ accepts _ ∙ reaches-read _ _ _ _ _ _ _ (sym c.in-Ok.ensures)

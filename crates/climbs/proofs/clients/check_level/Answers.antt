use Rattle.std.proofs.Common.{Err, sym, ap, ◌∙◌}
use Rattle.climbs.proofs.ClientsLaws.{level_short, level-read}
use Rattle.climbs.specs.ClientsShapes.{checked_of}
use Rattle.climbs.proofs.clients.check_level.Goals as goal

pub returns-in_default : goal.returns-in_default
returns-in_default c = ap Err c.reject_for.ensures ∙ sym (ap checked_of (level_short _ _ _ _ _ _ (sym c.in_default.ensures)))

pub returns : goal.returns
returns c = c.check_leaves.ensures ∙ sym (ap checked_of (level-read _ _ _ _ _ _ (sym c.in-Ok.ensures)))

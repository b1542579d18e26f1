use Rattle.std.proofs.Common.{sym, ◌∙◌}
use Rattle.climbs.proofs.ReachLaws.{unlevelled, levelled}
use Rattle.climbs.proofs.reach.both_reach.Goals as goal

pub returns-then-has_levels : goal.returns-then-has_levels
returns-then-has_levels c = c.reach_root.ensures ∙ levelled _ _ _ _ _ _ _ (sym c.has_levels.ensures ∙ c.if-has_levels.true)

pub returns-else-has_levels : goal.returns-else-has_levels
returns-else-has_levels c = c.if-has_levels.false ∙ unlevelled _ _ _ _ _ _ _ (sym c.has_levels.ensures ∙ c.if-has_levels.false)

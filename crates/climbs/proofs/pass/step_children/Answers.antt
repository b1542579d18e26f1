use Rattle.climbs.proofs.PassLaws.{made_none}
use Rattle.climbs.proofs.pass.step_children.Goals as goal

pub returns-then-need : goal.returns-then-need
returns-then-need c = (c.step_rows.ensures.0, c.step_rows.ensures.1, λ _. c.join_known.ensures)

pub returns-else-need : goal.returns-else-need
returns-else-need c = (c.step_rows.ensures.0, c.step_rows.ensures.1, made_none _ _ _ _ c.if-need.false)

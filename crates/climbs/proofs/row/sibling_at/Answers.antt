use Rattle.std.proofs.Common.{ap, ◌∙◌, le-ltb, lt-ltb}
use Rattle.spv.specs.Climb.{sibling_position}
use Rattle.climbs.specs.Row.{sibling_at}
use Rattle.climbs.proofs.row.sibling_at.Goals as goal

pub returns-then-state-lt-MISSING_STATES : goal.returns-then-state-lt-MISSING_STATES
unfolding sibling_at
returns-then-state-lt-MISSING_STATES c = rw (lt-ltb c.args.state 896 c.if-state-lt-MISSING_STATES.true)

pub returns : goal.returns
unfolding sibling_at
returns c = rw (le-ltb c.args.state 896 c.if-state-lt-MISSING_STATES.false) (c.sibling_position.ensures ∙ ap sibling_position c.above.ensures)

use Rattle.std.proofs.Common.{le-ltb, lt-ltb}
use Rattle.climbs.specs.Row.{number_of}
use Rattle.climbs.proofs.row.number_of.Goals as goal

pub returns-then-state-lt-MISSING_STATES : goal.returns-then-state-lt-MISSING_STATES
unfolding number_of
returns-then-state-lt-MISSING_STATES c = rw (lt-ltb c.args.state 896 c.if-state-lt-MISSING_STATES.true) (cc)

pub returns-then-state-lt-TWIN_STATES : goal.returns-then-state-lt-TWIN_STATES
unfolding number_of
returns-then-state-lt-TWIN_STATES c = rw (le-ltb c.args.state 896 c.if-state-lt-MISSING_STATES.false, lt-ltb c.args.state 960 c.if-state-lt-TWIN_STATES.true) (cc)

pub returns : goal.returns
unfolding number_of
returns c = rw (le-ltb c.args.state 896 c.if-state-lt-MISSING_STATES.false, le-ltb c.args.state 960 c.if-state-lt-TWIN_STATES.false) (cc)

use Rattle.std.proofs.Common.{ℕ, ◌+◌, ◌*◌, ◌%◌, ap, le-ltb, lt-ltb}
use Rattle.climbs.specs.Begun.{closed_state}
use Rattle.climbs.proofs.row.closed_state.Goals as goal

pub returns-then-state-lt128 : goal.returns-then-state-lt128
unfolding closed_state
returns-then-state-lt128 c = rw (lt-ltb c.args.state 128 c.if-state-lt128.true)

pub returns : goal.returns
unfolding closed_state
returns c = rw (le-ltb c.args.state 128 c.if-state-lt128.false) (ap (λ (n : ℕ). 64 * n + c.args.state % 64) c.number_of.ensures)

use Rattle.std.proofs.Common.{set, ap, ◌∙◌}
use Rattle.climbs.proofs.ProofsLaws.{closed-root, closed-zeros}
use Rattle.climbs.proofs.prove.close_row.Goals as goal

pub returns-then-state-ge128 : goal.returns-then-state-ge128
returns-then-state-ge128 c = (ap (set c.args.states.now c.args.row) c.closed_state.ensures, c.set_hash.ensures ∙ closed-zeros _ c.args.hashes.now c.args.row c.if-state-ge128.true)

pub returns-else-state-ge128 : goal.returns-else-state-ge128
returns-else-state-ge128 c = (ap (set c.args.states.now c.args.row) c.closed_state.ensures, closed-root _ c.args.hashes.now c.args.row c.if-state-ge128.false)

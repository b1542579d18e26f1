use Rattle.std.proofs.Common.{sym, ◌∙◌}
use Rattle.climbs.proofs.ProofsLaws.{proved-root, proved-refusal}
use Rattle.climbs.proofs.prove.proved_at.Goals as goal

pub returns-then-state-eq0 : goal.returns-then-state-eq0
returns-then-state-eq0 c = proved-root _ _ c.args.starts.now c.args.states.now c.args.hashes.now c.args.row _ c.start_at-start.ensures _ (sym c.state_at-state.ensures ∙ c.if-state-eq0.true) c.root_at-root.ensures

pub returns : goal.returns
returns c = proved-refusal _ _ c.args.starts.now c.args.states.now c.args.hashes.now c.args.row _ c.start_at-start.ensures _ _ c.state_at-state.ensures c.if-state-eq0.false c.rejection_of.ensures

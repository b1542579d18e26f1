use Rattle.climbs.proofs.WaitingLaws.{row-root, row-stop}
use Rattle.climbs.proofs.row.row_end.Goals as goal

pub returns-then-state-lt128 : goal.returns-then-state-lt128
returns-then-state-lt128 c = row-root c.args.starts.now c.args.states.now c.args.hashes.now c.args.row _ c.state_at-state.ensures _ c.root_at.ensures c.if-state-lt128.true

pub returns : goal.returns
returns c = row-stop c.args.starts.now c.args.states.now c.args.hashes.now c.args.row _ c.state_at-state.ensures _ _ c.start_at.ensures c.rejection_of.ensures c.if-state-lt128.false

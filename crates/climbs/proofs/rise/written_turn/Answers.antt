use Rattle.std.proofs.Common.{refl}
use Rattle.climbs.specs.LookUp.{looked_up}
use Rattle.climbs.proofs.RiseLaws.{stays_right, moves_right}
use Rattle.climbs.proofs.rise.written_turn.Goals as goal

pub returns-then-state-layer : goal.returns-then-state-layer
returns-then-state-layer c = stays_right _ _ _ _ _ _ _ refl

pub returns-in_err-x : goal.returns-in_err-x
returns-in_err-x c = stays_right _ _ _ _ _ _ _ c.from_residual.ensures

pub returns : goal.returns
returns c = moves_right (looked_up c.args.s.now c.args.places.now c.args.t.now c.args.others.now) c.args.starts.now c.args.states.now c.args.hashes.now c.args.row c.args.layer _ _ _ _ c.above-j.ensures c.sibling_position-q.ensures c.in_ok-x.ensures c.turn.ensures

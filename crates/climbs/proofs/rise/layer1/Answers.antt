use Rattle.std.proofs.Common.{arith}
use Rattle.climbs.specs.LookUp.{looked_up}
use Rattle.climbs.proofs.RiseLaws.{after_one}
use Rattle.climbs.proofs.rise.layer1.Goals as goal

pub returns : goal.returns
returns c =
    let v = after_one (looked_up c.args.s.now c.args.places.now c.args.t.now c.args.others.now) c.args.layer c.args.starts.now c.args.states.now c.args.hashes.now c.args.costs.now c.args.row c.requires.1 (omega (arith, c.requires.0, c.requires.2.each)) (omega (arith, c.requires.0, c.requires.2.room)) c.advance_if.new.states c.advance_if.new.hashes c.advance_if.new.costs c.written_turn-turn.result c.move_of-moved.result c.move_of-moved.ensures c.written_turn-turn.ensures c.advance_if.ensures in
    (v.moved, v.spent)

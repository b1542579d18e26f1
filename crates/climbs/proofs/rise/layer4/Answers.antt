use Rattle.climbs.specs.LookUp.{looked_up}
use Rattle.climbs.proofs.RiseLaws.{rise_four}
use Rattle.climbs.proofs.rise.layer4.Goals as goal

pub returns : goal.returns
returns c = rise_four (looked_up c.args.s.now c.args.places.now c.args.t.now c.args.others.now) c.args.layer c.args.starts.now c.args.a c.args.b c.args.c c.args.d c.written_turn-ta.result c.written_turn-tb.result c.written_turn-tc.result c.other_turn-td.result _ _ _ _ c.args.states.now c.args.hashes.now c.args.costs.now c.advance_if.new.states c.advance_if.new.hashes c.advance_if.new.costs c.advance_if-2.new.states c.advance_if-2.new.hashes c.advance_if-2.new.costs c.advance_if-3.new.states c.advance_if-3.new.hashes c.advance_if-3.new.costs c.advance_if-4.new.states c.advance_if-4.new.hashes c.advance_if-4.new.costs c.requires.4 c.requires.5.each c.requires.5.room c.requires.0 c.requires.1 c.requires.2 c.requires.3 c.advance_if.auto.states c.advance_if-2.auto.states c.advance_if-3.auto.states c.advance_if.auto.hashes c.advance_if-2.auto.hashes c.advance_if-3.auto.hashes c.four_moves-ma.ensures c.written_turn-ta.ensures c.written_turn-tb.ensures c.written_turn-tc.ensures c.other_turn-td.ensures c.advance_if.ensures c.advance_if-2.ensures c.advance_if-3.ensures c.advance_if-4.ensures

use Rattle.std.proofs.Common.{refl, arith}
use Rattle.climbs.proofs.RowLaws.{makes_by}
use Rattle.climbs.proofs.PassLaws.{stepped_not, stepped_unknown, stepped_both, charged_none}
use Rattle.climbs.proofs.pass.step_row.Goals as goal

pub returns-then-state-layer : goal.returns-then-state-layer
returns-then-state-layer c = (stepped_not c.args.starts.now c.args.states.now c.args.hashes.now c.args.row c.args.layer c.args.left c.args.l c.args.r c.if-state-layer.true, charged_none c.args.starts.now c.args.layer c.args.left c.args.l c.args.r c.args.states.now c.args.hashes.now c.args.costs.now)

pub returns-in_default : goal.returns-in_default
returns-in_default c = (stepped_unknown c.args.starts.now c.args.states.now c.args.hashes.now c.args.row c.args.layer c.args.left c.args.l c.args.r c.if-state-layer.false _ _ c.above-j.ensures c.in_default.ensures refl, charged_none c.args.starts.now c.args.layer c.args.left c.args.l c.args.r c.args.states.now c.args.hashes.now c.args.costs.now)

pub returns : goal.returns
returns c = stepped_both c.args.starts.now c.args.states.now c.args.hashes.now c.args.row c.args.layer c.args.left c.args.l c.args.r c.if-state-layer.false _ _ c.above-j.ensures c.in-Some.ensures refl c.join_halves-made.result c.requires.3 (omega arith) (omega arith) (makes_by _ _ _ c.join_halves-made.ensures c.turn.ensures) _ _ c.args.costs.now _ c.advance.ensures.0 c.advance.ensures.1 c.charge.ensures

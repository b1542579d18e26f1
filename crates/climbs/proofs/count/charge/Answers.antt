use Rattle.std.proofs.Common.{sym, refl}
use Rattle.climbs.proofs.SpentLaws.{charge-none, charge_stays, charge-joins, charge-fails}
use Rattle.climbs.proofs.count.charge.Goals as goal

pub returns-then-costs-row : goal.returns-then-costs-row
returns-then-costs-row c = sym (charge-none c.args.states.now c.args.costs.now c.args.row c.args.layer c.args.joins c.args.made c.if-costs-row.true)

pub returns-then-state-layer : goal.returns-then-state-layer
returns-then-state-layer c = sym (charge_stays c.args.states.now c.args.costs.now c.args.row c.args.layer c.args.joins c.args.made c.if-state-layer.true)

pub returns-in-Ok : goal.returns-in-Ok
returns-in-Ok c = sym (charge-joins c.args.states.now c.args.costs.now c.args.row c.args.layer c.args.joins c.args.made c.if-state-layer.false _ _ c.in-Ok.is refl)

pub returns-in-Err : goal.returns-in-Err
returns-in-Err c = sym (charge-fails c.args.states.now c.args.costs.now c.args.row c.args.layer c.args.joins c.args.made c.if-state-layer.false _ _ c.in-Err.is refl)

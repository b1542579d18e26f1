use Rattle.std.proofs.Common.{sym}
use Rattle.climbs.proofs.ProofsLaws.{counted-all, counted_none}
use Rattle.climbs.proofs.prove.counted.Goals as goal

pub returns-then-count-costs : goal.returns-then-count-costs
returns-then-count-costs c = sym (counted-all c.args.count c.args.costs c.if-count-costs.true)

pub returns-else-count-costs : goal.returns-else-count-costs
returns-else-count-costs c = sym (counted_none c.args.count c.args.costs c.if-count-costs.false)

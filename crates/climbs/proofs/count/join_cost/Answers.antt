use Rattle.std.proofs.Common.{◌+◌, ◌%◌, Bool, sym, ap}
use Rattle.format.specs.Parse.{pick}
use Rattle.climbs.specs.Spent.{U64, joined_cost}
use Rattle.climbs.proofs.count.join_cost.Goals as goal

pub returns-then-has : goal.returns-then-has
unfolding joined_cost
returns-then-has c = sym (ap (λ (b : Bool). pick b ((1 + (c.args.l + c.args.r) % U64) % U64) 0) c.if-has.true)

pub returns : goal.returns
unfolding joined_cost
returns c = sym (ap (λ (b : Bool). pick b ((1 + (c.args.l + c.args.r) % U64) % U64) 0) c.if-has.false)

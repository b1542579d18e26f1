use Rattle.std.proofs.Common.{◌∙◌}
use Rattle.merging.proofs.MergeLaws.{reach-none, reach_then}
use Rattle.merging.proofs.merging.both_reach.Goals as goal

pub returns-then-both_reach : goal.returns-then-both_reach
returns-then-both_reach c = reach_then c.args.s.now c.args.t.now c.args.x c.args.y c.args.root _ _ c.bump_path-first.ensures c.bump_path-second.ensures c.requires _ _ c.both_reach.ensures c.if-both_reach.true c.both_reach-then-both_reach.ensures

pub returns-else-both_reach : goal.returns-else-both_reach
returns-else-both_reach c = c.if-both_reach.false ∙ reach-none c.args.s.now c.args.t.now c.args.x c.args.y c.args.root _ _ c.bump_path-first.ensures c.bump_path-second.ensures c.requires _ c.both_reach.ensures c.if-both_reach.false

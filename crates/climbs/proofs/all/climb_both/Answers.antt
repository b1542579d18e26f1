use Rattle.std.proofs.Common.{◌∙◌, arith}
use Rattle.climbs.proofs.RowLaws.{moved_on}
use Rattle.climbs.proofs.SpentLaws.{spent_on, all_settled}
use Rattle.climbs.proofs.OrderLaws.{placed-rows, placed-sorted}
use Rattle.climbs.proofs.TogetherLaws.{all_climbed}
use Rattle.climbs.proofs.all.climb_both.Goals as goal

pub visit_trees-requires : goal.visit_trees-requires
visit_trees-requires c = let e = c.order_rows.auto.order ∙ c.requires.1.places in (c.requires.0, record { rows = placed-rows c.args.starts.now c.order_rows.new.order _ c.order_rows.ensures e; sorted = placed-sorted c.args.starts.now c.order_rows.new.order _ c.order_rows.ensures e; each = omega (arith, c.rise_rows.auto.states, c.requires.1.each); room = omega (arith, c.rise_rows.auto.hashes, c.requires.1.room) })

pub returns : goal.returns
returns c = let e = c.order_rows.auto.order ∙ c.requires.1.places in (all_climbed _ _ c.args.starts.now c.order_rows.new.order c.args.states.now c.args.hashes.now _ _ c.order_rows.ensures e (moved_on _ _ _ _ _ c.rise_rows.new.states c.rise_rows.new.hashes _ _ c.rise_rows.ensures.0 c.visit_trees.ensures.0) c.visit_trees.ensures.1, all_settled _ _ c.args.starts.now c.order_rows.new.order c.args.states.now c.args.hashes.now c.args.costs.now _ _ _ c.order_rows.ensures e (spent_on _ _ _ _ _ _ c.rise_rows.new.states c.rise_rows.new.hashes c.rise_rows.new.costs _ _ _ c.rise_rows.ensures.1 c.visit_trees.ensures.2) c.visit_trees.ensures.1)

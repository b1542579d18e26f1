use Rattle.std.proofs.Common.{◌^◌, ◌<◌, get_or, sym, refl, ◌∙◌, subst, arith}
use Rattle.spv.specs.PositionFits.{PositionFits}
use Rattle.climbs.specs.Row.{Rows}
use Rattle.climbs.proofs.RowLaws.{moved_none, moved_on}
use Rattle.climbs.proofs.SpentLaws.{spent-none, spent_on}
use Rattle.climbs.proofs.PassLaws.{reached-none, reached-both, reached-grows}
use Rattle.climbs.proofs.Visits.{setting_on}
use Rattle.climbs.proofs.TogetherLaws.{low-above, spot_tree, reached-end}
use Rattle.climbs.proofs.all.visit_trees.Goals as goal

pub loop-lo-init : goal.loop-lo-init
loop-lo-init c = (refl, refl, omega arith, moved_none _ _ _ _ _, reached-none _ _ _ _, spent-none _ _ _ _ _ _)

pub bounds-starts-row : goal.bounds-starts-row
unfolding Rows
bounds-starts-row c = c.requires.1.rows c.loop-lo.lo c.loop-lo-test.true

pub visit-requires : goal.visit-requires
visit-requires c = let x = get_or c.args.starts.now (get_or c.args.order.now c.loop-lo.lo 0) 0 in let f : x < 2 ^ 64 = omega (arith, c.shared_slice_known-in-loop-lo-2-1.given (get_or c.args.order.now c.loop-lo.lo 0)) in record { setting = setting_on c.args.starts.now c.args.order.now c.args.states.now c.args.hashes.now c.loop-lo.states c.loop-lo.hashes c.loop-lo.invariant.0 c.loop-lo.invariant.1 c.requires.1; spot = spot_tree c.args.starts.now c.args.order.now c.args.layers _ c.loop-lo.lo _ c.requires.0 (subst (PositionFits c.args.layers) (sym c.above-position.ensures) (low-above x c.args.layers c.requires.0 f)) c.split-hi.ensures.0 c.split-hi.ensures.1 c.split-hi.ensures.2 }

pub loop-lo-preserved : goal.loop-lo-preserved
loop-lo-preserved c = (c.visit.auto.states ∙ c.loop-lo.invariant.0, c.visit.auto.hashes ∙ c.loop-lo.invariant.1, c.split-hi.ensures.1, moved_on _ _ _ _ _ _ _ _ _ c.loop-lo.invariant.3 c.visit.ensures.0.moved, reached-both _ _ _ _ _ _ (reached-grows _ _ _ _ _ _ c.visit.ensures.0.moved.grows c.loop-lo.invariant.4) c.visit.ensures.0.reached, spent_on _ _ _ _ _ _ _ _ _ _ _ _ c.loop-lo.invariant.5 c.visit.ensures.1.spent)

pub returns : goal.returns
returns c = (c.loop-lo.invariant.3, reached-end _ _ _ _ _ _ (omega (arith, c.loop-lo.invariant.2, c.loop-lo-test.false)) c.loop-lo.invariant.4, c.loop-lo.invariant.5)

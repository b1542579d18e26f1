use Rattle.levels.specs.Ordered.{holding}
use native.Mathlib.Nat.{sub-zero}
use Rattle.merging.proofs.LevelsLaws.{sum-start, sum_on, sum-end, levels-end, levels_on}
use Rattle.levels.proofs.OrderedLaws.{level-told}
use mathlib.Core.Path.{◌≡◌}
use native.Mathlib.Omega.{arith}
use Rattle.merging.proofs.joining.tally_levels.Goals as goal

pub loop-init : goal.loop-init
loop-init c = (simp sub-zero (sum-start _), omega arith, c.requires, omega arith, omega arith)

pub shared_ref_as_front-tally_level : goal.shared_ref_as_front-tally_level
shared_ref_as_front-tally_level c =
    let l = (level-told _ _ _ _ _ c.order_level-a.ensures (omega arith)).2 in
    omega (arith, l, c.order_level-a.auto.places)

pub shared_ref_as_front-tally_level-in-loop : goal.shared_ref_as_front-tally_level-in-loop
shared_ref_as_front-tally_level-in-loop c =
    let l = (level-told _ _ _ _ _ c.order_level-b.ensures (omega arith)).2 in
    omega (arith, l, c.order_level-b.auto.places)

pub add_level-tally-requires : goal.add_level-tally-requires
add_level-tally-requires c = (omega (arith, c.loop.invariant.3, c.loop.invariant.2), omega (arith, c.loop.invariant.4, c.loop.invariant.2), c.tally_level.ensures.1, c.tally_level.ensures.2)

pub loop-preserved : goal.loop-preserved
loop-preserved c =
    let x = level-told _ _ _ _ _ c.order_level-a.ensures (omega arith) in
    let y = level-told _ _ _ _ _ c.order_level-b.ensures (omega arith) in
    let first : holding c.loop.x c.loop.room ≡ 1024 = omega arith in
    let second : holding c.loop.y c.order_level-a.new.room ≡ 1024 = omega arith in
    let on = levels_on _ _ c.args.height c.loop.counter _ _ (omega arith) first second x.0 x.1 y.0 y.1 in (
      sum_on _ _ _ _ _ _ c.loop.invariant.0 on (c.add_level-tally.ensures.0 _ c.tally_level.ensures.0),
      omega arith,
      c.loop.invariant.2,
      omega (arith, c.add_level-tally.ensures.1, c.loop.invariant.3),
      omega (arith, c.add_level-tally.ensures.2, c.loop.invariant.4),
    )

pub returns : goal.returns
returns c = (sum-end _ _ _ c.loop.invariant.0 (levels-end _ _ _ _ _ _ (omega arith)), omega (arith, c.loop.invariant.3, c.loop.invariant.1, c.loop.invariant.2))

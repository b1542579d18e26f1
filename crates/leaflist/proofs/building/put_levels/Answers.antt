use Rattle.levels.specs.Ordered.{holding}
use native.Mathlib.Nat.{sub-zero}
use Rattle.leaflist.proofs.RowsLaws.{levels_on, levels-end}
use Rattle.levels.proofs.OrderedLaws.{level-told}
use mathlib.Core.Path.{◌≡◌, refl, sym, ◌∙◌}
use native.Mathlib.Omega.{arith}
use Rattle.leaflist.proofs.building.put_levels.Goals as goal

pub loop-level-init : goal.loop-level-init
loop-level-init c = (simp sub-zero, omega arith, refl)

pub shared_ref_as_front-put_rows : goal.shared_ref_as_front-put_rows
shared_ref_as_front-put_rows c =
    let l = (level-told _ _ _ _ _ c.order_level-g.ensures (omega arith)).2 in
    omega (arith, l, c.order_level-g.auto.places)

pub loop-level-preserved : goal.loop-level-preserved
loop-level-preserved c =
    let room : holding c.loop-level.places c.loop-level.room ≡ 1024 = omega arith in
    let x = level-told _ _ _ _ _ c.order_level-g.ensures (omega arith) in (
      c.loop-level.invariant.0 ∙ levels_on _ _ _ _ _ _ (omega arith) room x.0 x.1 c.put_rows-at.ensures,
      omega arith,
      c.put_rows-at.auto.out ∙ c.loop-level.invariant.2,
    )

pub shape_of-out : goal.shape_of-out
shape_of-out c = c.loop-level.invariant.2

pub returns : goal.returns
returns c = sym (c.loop-level.invariant.0 ∙ levels-end _ _ _ _ _ _ (omega arith))

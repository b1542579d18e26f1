use Rattle.levels.specs.Ordered.{holding}
use native.Mathlib.Nat.{sub-zero}
use mathlib.Core.List.{List}
use Rattle.encoding.specs.Buffer.{buffer, write_on}
use Rattle.encoding.specs.Encode.{encode_all}
use Rattle.merging.specs.Merging.{Spot}
use Rattle.merging.specs.Levels.{level_text}
use Rattle.merging.proofs.LevelsLaws.{levels-end, levels_on, write-level, write-levels-end}
use Rattle.levels.proofs.OrderedLaws.{level-told}
use mathlib.Core.Path.{◌≡◌, refl, sym, ap, ◌∙◌}
use native.Mathlib.Omega.{arith}
use Rattle.merging.proofs.joining.put_levels.Goals as goal

pub loop-init : goal.loop-init
loop-init c = (simp sub-zero, omega arith, refl)

pub shared_ref_as_front-put_level : goal.shared_ref_as_front-put_level
shared_ref_as_front-put_level c =
    let l = (level-told _ _ _ _ _ c.order_level-a.ensures (omega arith)).2 in
    omega (arith, l, c.order_level-a.auto.places)

pub shared_ref_as_front-put_level-in-loop : goal.shared_ref_as_front-put_level-in-loop
shared_ref_as_front-put_level-in-loop c =
    let l = (level-told _ _ _ _ _ c.order_level-b.ensures (omega arith)).2 in
    omega (arith, l, c.order_level-b.auto.places)

pub loop-preserved : goal.loop-preserved
loop-preserved c =
    let x = level-told _ _ _ _ _ c.order_level-a.ensures (omega arith) in
    let y = level-told _ _ _ _ _ c.order_level-b.ensures (omega arith) in
    let first : holding c.loop.x c.loop.room ≡ 1024 = omega arith in
    let second : holding c.loop.y c.order_level-a.new.room ≡ 1024 = omega arith in
    let on = levels_on _ _ c.args.height c.loop.counter _ _ (omega arith) first second x.0 x.1 y.0 y.1 in (
      c.loop.invariant.0 ∙ ap (λ (v : List (List Spot)). write_on (buffer c.loop.out c.loop.at) (encode_all level_text v)) on ∙ write-level _ _ _ c.put_level-at.ensures,
      omega arith,
      c.put_level-at.auto.out ∙ c.loop.invariant.2,
    )

pub shape_of-out : goal.shape_of-out
shape_of-out c = c.loop.invariant.2

pub returns : goal.returns
returns c = sym (c.loop.invariant.0 ∙ ap (λ (v : List (List Spot)). write_on (buffer c.loop.out c.loop.at) (encode_all level_text v)) (levels-end _ _ _ _ _ _ (omega arith)) ∙ write-levels-end _)

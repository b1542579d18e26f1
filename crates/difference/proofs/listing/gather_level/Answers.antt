use Rattle.difference.specs.Merge.{gathering}
use Rattle.difference.proofs.MergeLaws.{level-above, level-here}
use Rattle.levels.proofs.OrderedLaws.{level-told}
use native.Mathlib.Omega.{arith}
use Rattle.levels.specs.Ordered.{holding}
use mathlib.Core.Path.{◌≡◌, sym, ap₂, ◌∙◌}
use Rattle.difference.proofs.listing.gather_level.Goals as goal

pub returns-then-height-level : goal.returns-then-height-level
returns-then-height-level c = (sym (level-above _ _ _ _ _ c.if-height-level.true), omega arith)

pub returns : goal.returns
returns c =
    let room : holding c.args.places.now c.args.room.now ≡ 1024 = omega arith in
    let told = rw room at c.order_level.ensures in
    let g = level-told 1024 _ _ _ _ told (omega arith) in
    (ap₂ gathering g.0 g.1 ∙ sym (level-here _ _ _ _ _ c.if-height-level.false), omega (arith, g.2))

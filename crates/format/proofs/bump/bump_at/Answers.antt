use native.Mathlib.Omega.{arith}
use mathlib.Core.Path.{sym, ◌∙◌}
use Rattle.format.specs.Bump.{bump_up_to}
use Rattle.format.proofs.BumpLaws.{height_bounded, bump_no_height, bump_no_levels, bump-read}
use Rattle.format.specs.Parse.{each}
use Rattle.format.proofs.ParseLaws.{passed_on}
use Rattle.format.proofs.bump.bump_at.Goals as goal

pub returns-in_err-block : goal.returns-in_err-block
unfolding each bump_up_to
returns-in_err-block c =
    passed_on _ _ c.from_residual.ensures.1 ∙ (simp (sym c.in_err-block.ensures))

pub returns-in_err-height : goal.returns-in_err-height
returns-in_err-height c =
    passed_on _ _ c.from_residual-in_err-height.ensures.1 ∙ (sym (bump_no_height _ _ (sym c.in_ok-block.ensures) (sym c.in_err-height.ensures)))

pub read_levels-requires : goal.read_levels-requires
read_levels-requires c = let h = height_bounded _ _ (sym c.in_ok-height.ensures) in omega arith

pub returns-in_err-leaves : goal.returns-in_err-leaves
returns-in_err-leaves c =
    passed_on _ _ c.from_residual-in_err-leaves.ensures.1 ∙ (sym (bump_no_levels _ _ (sym c.in_ok-block.ensures) (sym c.in_ok-height.ensures) (sym c.in_err-leaves.ensures)))

pub returns : goal.returns
returns c =
    sym (bump-read _ _ (sym c.in_ok-block.ensures)
    (sym c.in_ok-height.ensures)
    (sym c.in_ok-leaves.ensures))

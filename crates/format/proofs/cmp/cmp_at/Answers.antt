use native.Mathlib.Omega.{arith}
use mathlib.Core.Path.{sym, ◌∙◌}
use Rattle.format.proofs.BumpLaws.{top_bounded, cmp_no_levels, cmp-read}
use Rattle.format.specs.Cmp.{cmp_up_to}
use Rattle.format.specs.Parse.{each}
use Rattle.format.proofs.ParseLaws.{passed_on}
use Rattle.format.proofs.cmp.cmp_at.Goals as goal

pub returns-in_err-top : goal.returns-in_err-top
unfolding each cmp_up_to
returns-in_err-top c =
    passed_on _ _ c.from_residual.ensures.1 ∙ (simp (sym c.in_err-top.ensures))

pub overflow_add-height : goal.overflow_add-height
overflow_add-height c = let h = top_bounded _ _ (sym c.in_ok-top.ensures) in omega arith

pub read_levels-requires : goal.read_levels-requires
read_levels-requires c = let h = top_bounded _ _ (sym c.in_ok-top.ensures) in omega arith

pub returns-in_err-leaves : goal.returns-in_err-leaves
returns-in_err-leaves c =
    passed_on _ _ c.from_residual-in_err-leaves.ensures.1 ∙ (sym (cmp_no_levels _ _ (sym c.in_ok-top.ensures) (sym c.in_err-leaves.ensures)))

pub returns : goal.returns
returns c = sym (cmp-read _ _ (sym c.in_ok-top.ensures) (sym c.in_ok-leaves.ensures))

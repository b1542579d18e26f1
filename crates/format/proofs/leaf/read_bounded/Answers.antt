use native.Mathlib.Omega.{arith}
use mathlib.Core.Path.{refl, sym, ◌∙◌}
use Rattle.format.proofs.ParseLaws.{passed_on}
use Rattle.format.specs.Level.{holds}
use Rattle.format.proofs.LevelLaws.{offset-refused, offset_outside, offset-fresh}
use Rattle.format.proofs.leaf.read_bounded.Goals as goal

pub returns-in_err-offset : goal.returns-in_err-offset
returns-in_err-offset c = passed_on _ _ c.from_residual.ensures.1 ∙ (sym (offset-refused _ _ _ _ (sym c.in_err-offset.ensures)))

pub returns-then-greatest-offset : goal.returns-then-greatest-offset
returns-then-greatest-offset c = sym (offset_outside _ _ _ _ (sym c.in_ok-offset.ensures) (omega arith))

pub returns : goal.returns
unfolding holds
returns c = sym (offset-fresh _ _ _ _ (sym c.in_ok-offset.ensures) (omega arith) refl)

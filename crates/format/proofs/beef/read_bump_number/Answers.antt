use mathlib.Core.Path.{sym, ◌∙◌}
use borrow.Author.Tests.{le-ltb, lt-ltb}
use Rattle.format.proofs.ParseLaws.{passed_on}
use Rattle.format.specs.Beef.{bump_number_field}
use Rattle.format.proofs.beef.read_bump_number.Goals as goal

pub returns-in_err-number : goal.returns-in_err-number
unfolding bump_number_field
returns-in_err-number c =
    passed_on _ _ c.from_residual.ensures.1 ∙ (simp (sym c.in_err-number.ensures))

pub returns-then-bumps-number : goal.returns-then-bumps-number
unfolding bump_number_field
returns-then-bumps-number c = simp (sym c.in_ok-number.ensures, le-ltb _ _ c.if-bumps-number.true)

pub returns : goal.returns
unfolding bump_number_field
returns c = simp (sym c.in_ok-number.ensures, lt-ltb _ _ c.if-bumps-number.false)

use Rattle.format.specs.Parse.{each}
use Rattle.format.specs.Level.{kind_field}
use Rattle.format.proofs.LevelLaws.{kind_refused}
use Rattle.format.proofs.ParseLaws.{passed_on}
use mathlib.Core.Path.{sym, ◌∙◌}
use borrow.Author.Tests.{ne_eqb}
use Rattle.format.proofs.leaf.read_kind.Goals as goal

pub returns-then-flag-eq1 : goal.returns-then-flag-eq1
unfolding kind_field
returns-then-flag-eq1 c = simp c.if-flag-eq1.true

pub returns-in_err-place : goal.returns-in_err-place
returns-in_err-place c =
    passed_on _ _ c.from_residual.ensures.1 ∙ (sym (kind_refused _ _ _ c.if-flag-eq1.false (sym c.in_err-place.ensures)))

pub returns-then-flag-eq0 : goal.returns-then-flag-eq0
unfolding each kind_field
returns-then-flag-eq0 c = simp (c.if-flag-eq0.true, sym c.in_ok-place.ensures)

pub returns : goal.returns
unfolding each kind_field
returns c = simp (ne_eqb _ _ c.if-flag-eq0.false, ne_eqb _ _ c.if-flag-eq1.false, sym c.in_ok-place.ensures)

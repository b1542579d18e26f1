use mathlib.Core.Path.{◌∙◌, sym}
use borrow.Author.Tests.{eq-eqb, ne_eqb}
use Rattle.format.proofs.ParseLaws.{passed_on}
use Rattle.format.specs.Parse.{each}
use Rattle.format.specs.Tsc.{subject_field}
use Rattle.format.proofs.tsc.read_subject.Goals as goal

pub returns-then-flags-eq1 : goal.returns-then-flags-eq1
unfolding subject_field each
returns-then-flags-eq1 c = c.read_stated.ensures ∙ simp (eq-eqb _ _ c.if-flags-eq1.true)

pub returns-in_err-place : goal.returns-in_err-place
unfolding subject_field each
returns-in_err-place c =
    passed_on _ _ c.from_residual.ensures.1 ∙ (simp (ne_eqb _ _ c.if-flags-eq1.false, sym c.in_err-place.ensures))

pub returns : goal.returns
unfolding subject_field each
returns c = simp (ne_eqb _ _ c.if-flags-eq1.false, sym c.in_ok-place.ensures)

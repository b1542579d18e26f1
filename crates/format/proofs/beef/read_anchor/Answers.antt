use mathlib.Core.Path.{sym, ◌∙◌}
use borrow.Author.Tests.{le-leb, lt-leb, eq-eqb, ne_eqb}
use Rattle.format.proofs.ParseLaws.{passed_on}
use Rattle.format.specs.Parse.{each}
use Rattle.format.specs.Beef.{anchor_field}
use Rattle.format.proofs.beef.read_anchor.Goals as goal

pub returns-in_err-mark : goal.returns-in_err-mark
unfolding anchor_field each
returns-in_err-mark c =
    passed_on _ _ c.from_residual.ensures.1 ∙ (simp (sym c.in_err-mark.ensures))

pub returns-then-mark-gt1 : goal.returns-then-mark-gt1
unfolding anchor_field each
returns-then-mark-gt1 c = simp (sym c.in_ok-mark.ensures, lt-leb _ _ c.if-mark-gt1.true)

pub returns-then-mark-eq0 : goal.returns-then-mark-eq0
unfolding anchor_field each
returns-then-mark-eq0 c =
    simp (
      sym c.in_ok-mark.ensures,
      le-leb _ _ c.if-mark-gt1.false,
      eq-eqb _ _ c.if-mark-eq0.true,
    )

pub returns-in_err-number : goal.returns-in_err-number
unfolding anchor_field each
returns-in_err-number c =
    passed_on _ _ c.from_residual-in_err-number.ensures.1 ∙ (simp (
      sym c.in_ok-mark.ensures,
      le-leb _ _ c.if-mark-gt1.false,
      ne_eqb _ _ c.if-mark-eq0.false,
      sym c.in_err-number.ensures,
    ))

pub returns : goal.returns
unfolding anchor_field each
returns c =
    simp (
      sym c.in_ok-mark.ensures,
      le-leb _ _ c.if-mark-gt1.false,
      ne_eqb _ _ c.if-mark-eq0.false,
      sym c.in_ok-number.ensures,
    )

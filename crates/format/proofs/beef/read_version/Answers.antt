use mathlib.Core.Path.{sym, ◌∙◌}
use borrow.Author.Tests.{eq-eqb, ne_eqb}
use Rattle.format.proofs.ParseLaws.{passed_on}
use Rattle.format.specs.Beef.{version_field}
use Rattle.format.proofs.beef.read_version.Goals as goal

pub returns-in_err-version : goal.returns-in_err-version
unfolding version_field
returns-in_err-version c = passed_on _ _ c.from_residual.ensures.1 ∙ (simp (sym c.in_err-version.ensures))

pub returns-then-version-eq-VERSION : goal.returns-then-version-eq-VERSION
unfolding version_field
returns-then-version-eq-VERSION c = simp (sym c.in_ok-version.ensures, eq-eqb _ _ c.if-version-eq-VERSION.true)

pub returns : goal.returns
unfolding version_field
returns c = simp (sym c.in_ok-version.ensures, ne_eqb _ _ c.if-version-eq-VERSION.false)

use mathlib.Core.Path.{sym, ◌∙◌}
use borrow.Author.Tests.{le-ltb, lt-ltb, eq-eqb, ne_eqb}
use Rattle.format.proofs.ParseLaws.{passed_on}
use Rattle.format.specs.Tsc.{flags_field}
use Rattle.format.proofs.tsc.read_flags.Goals as goal

pub returns-in_err-flags : goal.returns-in_err-flags
unfolding flags_field
returns-in_err-flags c = passed_on _ _ c.from_residual.ensures.1 ∙ (simp (sym c.in_err-flags.ensures))

pub returns-then-flags-ge8 : goal.returns-then-flags-ge8
unfolding flags_field
returns-then-flags-ge8 c = simp (sym c.in_ok-flags.ensures, le-ltb _ _ c.if-flags-ge8.true)

pub returns-then-flags-eq6 : goal.returns-then-flags-eq6
unfolding flags_field
returns-then-flags-eq6 c = simp (sym c.in_ok-flags.ensures, lt-ltb _ _ c.if-flags-ge8.false, eq-eqb _ _ c.if-flags-eq6.true)

pub returns : goal.returns
unfolding flags_field
returns c = simp (sym c.in_ok-flags.ensures, lt-ltb _ _ c.if-flags-ge8.false, ne_eqb _ _ c.if-flags-eq6.false)

use mathlib.Core.Path.{◌∙◌}
use borrow.Author.Tests.{eq-eqb, ne_eqb}
use Rattle.format.specs.Tsc.{target_field}
use Rattle.format.proofs.tsc.read_target.Goals as goal

pub returns-then-flags-eq2 : goal.returns-then-flags-eq2
unfolding target_field
returns-then-flags-eq2 c = c.read_run.ensures ∙ simp (eq-eqb _ _ c.if-flags-eq2.true)

pub returns : goal.returns
unfolding target_field
returns c = c.read_run-2.ensures ∙ simp (ne_eqb _ _ c.if-flags-eq2.false)

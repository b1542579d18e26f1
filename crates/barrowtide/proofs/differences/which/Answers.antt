use Rattle.barrowtide.specs.Choices.{which_by}
use borrow.Author.Tests.{eq-eqb, ne_eqb}
use mathlib.Core.Path.{refl}
use Rattle.barrowtide.proofs.differences.which.Goals as goal

pub returns-then-part-eq0 : goal.returns-then-part-eq0
unfolding which_by
returns-then-part-eq0 c = rw (eq-eqb c.args.part 0 c.if-part-eq0.true) refl

pub returns-then-part-first : goal.returns-then-part-first
unfolding which_by
returns-then-part-first c = rw (ne_eqb c.args.part 0 c.if-part-eq0.false, eq-eqb c.args.part c.args.first c.if-part-first.true) refl

pub returns : goal.returns
unfolding which_by
returns c = rw (ne_eqb c.args.part 0 c.if-part-eq0.false, ne_eqb c.args.part c.args.first c.if-part-first.false) refl

use borrow.Author.Tests.{eq-eqb, ne_eqb}
use Rattle.stream.specs.Progress.{digit}
use Rattle.stream.proofs.digits.digit.Goals as goal

pub returns-then-f-eq0 : goal.returns-then-f-eq0
unfolding digit
returns-then-f-eq0 c = rw (eq-eqb _ _ c.if-f-eq0.true) c.first_digit.ensures

pub returns : goal.returns
unfolding digit
returns c = rw (ne_eqb _ _ c.if-f-eq0.false) c.later_digit.ensures

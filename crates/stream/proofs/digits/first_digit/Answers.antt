use borrow.Author.Tests.{le-ltb, lt-ltb}
use Rattle.stream.specs.Progress.{first_digit}
use Rattle.stream.proofs.digits.first_digit.Goals as goal

pub returns-then-x-lt253 : goal.returns-then-x-lt253
unfolding first_digit
returns-then-x-lt253 c = rw (lt-ltb _ _ c.if-x-lt253.true, ← c.moved.ensures) c.next.ensures

pub returns : goal.returns
unfolding first_digit
returns c = rw (le-ltb _ _ c.if-x-lt253.false, ← c.announce.ensures)

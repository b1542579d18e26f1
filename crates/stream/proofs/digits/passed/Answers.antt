use borrow.Author.Tests.{le-leb, lt-leb}
use Rattle.stream.specs.Progress.{passed}
use Rattle.stream.proofs.digits.passed.Goals as goal

pub returns-then-f-k : goal.returns-then-f-k
unfolding passed
returns-then-f-k c = rw (le-leb _ _ c.if-f-k.true, ← c.moved-g.ensures) c.next.ensures

pub returns : goal.returns
unfolding passed
returns c = rw (lt-leb _ _ c.if-f-k.false, ← c.moved-g.ensures)

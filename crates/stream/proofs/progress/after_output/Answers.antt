use borrow.Author.Tests.{le-leb, lt-leb}
use Rattle.stream.specs.Progress.{after_output}
use Rattle.stream.proofs.progress.after_output.Goals as goal

pub returns-then-f-le1 : goal.returns-then-f-le1
unfolding after_output
returns-then-f-le1 c = rw (le-leb _ _ c.if-f-le1.true, ← c.begin.ensures)

pub returns : goal.returns
unfolding after_output
returns c = rw (lt-leb _ _ c.if-f-le1.false, ← c.one_passed.ensures, ← c.begin-2.ensures)

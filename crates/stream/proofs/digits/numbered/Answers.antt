use Rattle.stream.specs.Progress.{numbered}
use borrow.Author.Tests.{le-leb, lt-leb}
use Rattle.stream.proofs.digits.numbered.Goals as goal

pub returns-then-v-least : goal.returns-then-v-least
unfolding numbered
returns-then-v-least c = rw (← c.scaled-v.ensures, ← c.least.ensures, lt-leb _ _ c.if-v-least.true) c.refused.ensures

pub returns : goal.returns
unfolding numbered
returns c = rw (← c.scaled-v.ensures, ← c.least.ensures, le-leb _ _ c.if-v-least.false) c.next.ensures

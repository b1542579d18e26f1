use borrow.Author.Tests.{le-ltb, lt-ltb}
use Rattle.format.specs.Field.{byte}
use Rattle.format.proofs.field.one_byte.Goals as goal

pub returns-then-s-at : goal.returns-then-s-at
unfolding byte
returns-then-s-at c = simp (le-ltb _ _ c.if-s-at.true)

pub returns : goal.returns
unfolding byte
returns c = simp (lt-ltb _ _ c.if-s-at.false, c.from.ensures)

use borrow.Author.Tests.{le-leb, lt-leb}
use Rattle.stream.specs.Progress.{taken}
use Rattle.stream.proofs.digits.taken.Goals as goal

pub returns-then-f-ge-MAX_PARTS : goal.returns-then-f-ge-MAX_PARTS
unfolding taken
returns-then-f-ge-MAX_PARTS c = rw (le-leb _ _ c.if-f-ge-MAX_PARTS.true) c.refused.ensures

pub returns-then-is_end : goal.returns-then-is_end
unfolding taken
returns-then-is_end c = rw (lt-leb _ _ c.if-f-ge-MAX_PARTS.false, ← c.is_end.ensures, c.if-is_end.true) c.refused-then-is_end.ensures

pub returns-then-is_number : goal.returns-then-is_number
unfolding taken
returns-then-is_number c = rw (lt-leb _ _ c.if-f-ge-MAX_PARTS.false, ← c.is_end.ensures, c.if-is_end.false, ← c.is_number.ensures, c.if-is_number.true) c.digit.ensures

pub returns : goal.returns
unfolding taken
returns c = rw (lt-leb _ _ c.if-f-ge-MAX_PARTS.false, ← c.is_end.ensures, c.if-is_end.false, ← c.is_number.ensures, c.if-is_number.false) c.passed.ensures

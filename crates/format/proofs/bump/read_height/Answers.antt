use mathlib.Core.Path.{sym, ◌∙◌}
use borrow.Author.Tests.{le-leb, lt-leb}
use Rattle.format.proofs.ParseLaws.{passed_on}
use Rattle.format.specs.Bump.{height_up_to}
use Rattle.format.proofs.bump.read_height.Goals as goal

pub returns-in_err-height : goal.returns-in_err-height
unfolding height_up_to
returns-in_err-height c = passed_on _ _ c.from_residual.ensures.1 ∙ (simp (sym c.in_err-height.ensures))

pub returns-then-height-lt1 : goal.returns-then-height-lt1
unfolding height_up_to
returns-then-height-lt1 c = simp (sym c.in_ok-height.ensures, lt-leb _ _ c.if-height-lt1.true)

pub returns-then-height-gt-MAX_HEIGHT : goal.returns-then-height-gt-MAX_HEIGHT
unfolding height_up_to
returns-then-height-gt-MAX_HEIGHT c = simp (sym c.in_ok-height.ensures, le-leb _ _ c.if-height-lt1.false, lt-leb _ _ c.if-height-gt-MAX_HEIGHT.true)

pub returns : goal.returns
unfolding height_up_to
returns c = simp (sym c.in_ok-height.ensures, le-leb _ _ c.if-height-lt1.false, le-leb _ _ c.if-height-gt-MAX_HEIGHT.false)

use mathlib.Core.Path.{sym, ◌∙◌}
use borrow.Author.Tests.{le-leb, lt-leb}
use Rattle.format.proofs.ParseLaws.{passed_on}
use Rattle.format.specs.Beef.{bump_count_field}
use Rattle.format.proofs.bumps.read_bump_count.Goals as goal

pub returns-in_err-count : goal.returns-in_err-count
unfolding bump_count_field
returns-in_err-count c =
    passed_on _ _ c.from_residual.ensures.1 ∙ (simp (sym c.in_err-count.ensures))

pub returns-then-count-gt-MAX_BUMPS : goal.returns-then-count-gt-MAX_BUMPS
unfolding bump_count_field
returns-then-count-gt-MAX_BUMPS c = simp (sym c.in_ok-count.ensures, lt-leb _ _ c.if-count-gt-MAX_BUMPS.true)

pub returns : goal.returns
unfolding bump_count_field
returns c = simp (sym c.in_ok-count.ensures, le-leb _ _ c.if-count-gt-MAX_BUMPS.false)

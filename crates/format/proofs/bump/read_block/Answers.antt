use mathlib.Core.Path.{sym, ◌∙◌}
use borrow.Author.Tests.{le-leb, lt-leb}
use Rattle.format.specs.Bump.{block_field}
use Rattle.format.proofs.ParseLaws.{passed_on}
use Rattle.format.proofs.bump.read_block.Goals as goal

pub returns-in_err-block : goal.returns-in_err-block
unfolding block_field
returns-in_err-block c = passed_on _ _ c.from_residual.ensures.1 ∙ (simp (sym c.in_err-block.ensures))

pub returns-then-block-gt-MAX_BLOCK : goal.returns-then-block-gt-MAX_BLOCK
unfolding block_field
returns-then-block-gt-MAX_BLOCK c = simp (sym c.in_ok-block.ensures, lt-leb _ _ c.if-block-gt-MAX_BLOCK.true)

pub returns : goal.returns
unfolding block_field
returns c = simp (sym c.in_ok-block.ensures, le-leb _ _ c.if-block-gt-MAX_BLOCK.false)

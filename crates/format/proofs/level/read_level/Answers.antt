use Rattle.format.specs.Parse.{each}
use Rattle.format.specs.Level.{level_field}
use Rattle.format.proofs.ParseLaws.{passed_on}
use mathlib.Core.Path.{◌∙◌, sym}
use borrow.Author.Tests.{le-leb, lt-leb}
use Rattle.format.proofs.level.read_level.Goals as goal

pub returns-in_err-count : goal.returns-in_err-count
unfolding each level_field
returns-in_err-count c = passed_on _ _ c.from_residual.ensures.1 ∙ (simp (sym c.in_err-count.ensures))

pub returns-then-count : goal.returns-then-count
unfolding each level_field
returns-then-count c = simp (sym c.in_ok-count.ensures, lt-leb _ _ c.if-count.true)

pub returns : goal.returns
unfolding each level_field
returns c = c.read_rising.ensures ∙ simp (sym c.in_ok-count.ensures, le-leb _ _ c.if-count.false)

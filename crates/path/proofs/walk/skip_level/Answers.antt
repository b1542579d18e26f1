use mathlib.Core.Path.{sym, ◌∙◌}
use Rattle.format.specs.Parse.{each}
use Rattle.format.proofs.ParseLaws.{passed_on}
use Rattle.path.specs.Unchecked.{unchecked_level}
use Rattle.path.proofs.walk.skip_level.Goals as goal

pub returns-in_err-count : goal.returns-in_err-count
unfolding each unchecked_level
returns-in_err-count c = passed_on _ _ c.from_residual.ensures.1 ∙ simp (sym c.in_err-count.ensures)

pub returns : goal.returns
unfolding unchecked_level
returns c = c.skip_leaves.ensures ∙ simp (sym c.in_ok-count.ensures)

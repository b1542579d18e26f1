use mathlib.Core.Path.{sym, ◌∙◌}
use Rattle.path.specs.Search.{leaf_of_level}
use Rattle.path.proofs.path.find_in_level.Goals as goal

pub returns-in_default : goal.returns-in_default
unfolding leaf_of_level
returns-in_default c = simp (sym c.in_default.ensures)

pub returns : goal.returns
unfolding leaf_of_level
returns c = c.seek_leaf.ensures ∙ simp (sym c.in-Ok.ensures)

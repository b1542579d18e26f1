use mathlib.Core.Path.{sym, ◌∙◌}
use Rattle.path.specs.Search.{start_of_level}
use Rattle.path.proofs.path.find_id_in_level.Goals as goal

pub returns-in_default : goal.returns-in_default
unfolding start_of_level
returns-in_default c = simp (sym c.in_default.ensures)

pub returns : goal.returns
unfolding start_of_level
returns c = c.seek_id.ensures ∙ simp (sym c.in-Ok.ensures)

use mathlib.Core.Path.{◌∙◌}
use Rattle.path.specs.Path.{start_at_place, start_in}
use Rattle.path.proofs.path.find_id.Goals as goal

pub returns-in-Bump : goal.returns-in-Bump
unfolding start_in start_at_place
returns-in-Bump c = c.find_id_in_level.ensures ∙ simp c.in-Bump.is

pub returns-in-Cmp : goal.returns-in-Cmp
unfolding start_in start_at_place
returns-in-Cmp c = c.find_id_in_level-in-Cmp.ensures ∙ simp c.in-Cmp.is

pub returns-in-Tsc : goal.returns-in-Tsc
unfolding start_in start_at_place
returns-in-Tsc c = simp c.in-Tsc.is

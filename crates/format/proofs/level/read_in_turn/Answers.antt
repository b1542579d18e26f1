use native.Mathlib.Omega.{arith}
use mathlib.Core.Path.{◌∙◌}
use Rattle.format.proofs.LevelLaws.{turn_below, in_turn}
use Rattle.format.proofs.level.read_in_turn.Goals as goal

pub overflow_sub-height : goal.overflow_sub-height
overflow_sub-height c = let h = turn_below _ _ _ _ c.level_in_turn-level.ensures c.requires.0 in omega arith

pub greatest_of-requires : goal.greatest_of-requires
greatest_of-requires c = let h = turn_below _ _ _ _ c.level_in_turn-level.ensures c.requires.0 in omega arith

pub returns : goal.returns
returns c = c.read_level.ensures ∙ in_turn _ _ _ _ _ _ _ c.level_in_turn-level.ensures c.greatest_of.ensures

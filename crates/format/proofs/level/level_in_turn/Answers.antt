use native.Mathlib.Omega.{arith}
use Rattle.format.specs.Level.{level_of_turn}
use Rattle.format.proofs.level.level_in_turn.Goals as goal

pub returns-then-height-i : goal.returns-then-height-i
unfolding level_of_turn
returns-then-height-i c = rw c.in-Cmp.is (omega arith)

pub returns-in-Bump : goal.returns-in-Bump
unfolding level_of_turn
returns-in-Bump c = rw c.in-Bump.is

pub returns-else-height-i : goal.returns-else-height-i
unfolding level_of_turn
returns-else-height-i c = rw c.in-Cmp.is

use Rattle.std.proofs.Common.{arith}
use Rattle.std.proofs.lemmas.Grind.{common_steps}
use Rattle.climbs.specs.Proofs.{has_room}
use Rattle.climbs.proofs.prove.has_room.Goals as goal

pub returns-then-count-states : goal.returns-then-count-states
unfolding has_room
returns-then-count-states c = grind (arith, common_steps)

pub returns-else-count-states : goal.returns-else-count-states
unfolding has_room
returns-else-count-states c = grind (arith, common_steps)

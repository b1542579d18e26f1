use Rattle.barrowtide.specs.Leaves.{found_of, place_after}
use mathlib.Core.Path.{refl}
use Rattle.barrowtide.proofs.leaves.tell_place.Goals as goal

pub returns-in-Some : goal.returns-in-Some
unfolding found_of place_after
returns-in-Some c = (rw c.in-Some.is refl, rw c.in-Some.is refl)

pub returns-in-None : goal.returns-in-None
unfolding found_of place_after
returns-in-None c = (rw c.in-None.is refl, rw c.in-None.is refl)

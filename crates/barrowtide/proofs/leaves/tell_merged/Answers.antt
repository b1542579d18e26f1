use mathlib.Core.Path.{refl}
use Rattle.barrowtide.specs.Interface.{number_told, blame_told, told}
use Rattle.barrowtide.proofs.leaves.tell_merged.Goals as goal

pub returns-in-Ok : goal.returns-in-Ok
unfolding number_told blame_told told
returns-in-Ok c = rw c.in-Ok.is (refl, refl, refl, refl)

pub returns-in-Err : goal.returns-in-Err
unfolding number_told blame_told told
returns-in-Err c = rw c.in-Err.is (c.refuse.ensures.0, c.refuse.ensures.1, refl, refl)

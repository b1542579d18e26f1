use Rattle.std.proofs.Common.{refl}
use Rattle.levels.specs.Fronts.{place_of}
use Rattle.levels.proofs.FrontsLaws.{place-either}
use Rattle.levels.proofs.level.place_of.Goals as goal

pub returns-in-Copy : goal.returns-in-Copy
unfolding place_of
returns-in-Copy c = rw c.in-Copy.is refl

pub returns-in-Plain : goal.returns-in-Plain
returns-in-Plain c = place-either _ c.in-Plain.is

pub returns-in-Plain-2 : goal.returns-in-Plain-2
returns-in-Plain-2 c = place-either _ c.in-Plain.is

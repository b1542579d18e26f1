use Rattle.levels.specs.Fronts.{flags_of}
use mathlib.Core.Path.{refl}
use Rattle.levels.proofs.level.flags_of.Goals as goal

pub returns-in-Plain : goal.returns-in-Plain
unfolding flags_of
returns-in-Plain c = rw c.in-Plain.is refl

pub returns-in-Copy : goal.returns-in-Copy
unfolding flags_of
returns-in-Copy c = rw c.in-Copy.is refl

pub returns-in-Client : goal.returns-in-Client
unfolding flags_of
returns-in-Client c = rw c.in-Client.is refl

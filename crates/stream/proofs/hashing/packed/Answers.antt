use Rattle.stream.specs.HashState.{words_of}
use mathlib.Core.Path.{refl}
use Rattle.stream.proofs.hashing.packed.Goals as goal

pub returns : goal.returns
unfolding words_of
returns c = refl

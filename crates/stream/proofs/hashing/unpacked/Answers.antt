use Rattle.stream.specs.HashState.{from_words}
use mathlib.Core.Path.{refl}
use Rattle.stream.proofs.hashing.unpacked.Goals as goal

pub returns : goal.returns
unfolding from_words
returns c = refl

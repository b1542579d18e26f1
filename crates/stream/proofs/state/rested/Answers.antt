use mathlib.Core.Path.{refl}
use Rattle.stream.specs.Lent.{resting}
use Rattle.stream.proofs.state.rested.Goals as goal

pub returns : goal.returns
unfolding resting
returns c = refl

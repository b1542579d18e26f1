use mathlib.Core.Path.{refl}
use Rattle.stream.specs.Lent.{hashing_in}
use Rattle.stream.proofs.state.hashing_in.Goals as goal

pub returns : goal.returns
unfolding hashing_in
returns c = refl

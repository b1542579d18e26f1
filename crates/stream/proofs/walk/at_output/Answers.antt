use mathlib.Core.Path.{refl}
use Rattle.stream.specs.Progress.{at_output}
use Rattle.stream.proofs.walk.at_output.Goals as goal

pub returns : goal.returns
unfolding at_output
returns c = refl

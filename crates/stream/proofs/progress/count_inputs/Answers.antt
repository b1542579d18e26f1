use mathlib.Core.Path.{refl}
use Rattle.stream.specs.Progress.{count_inputs}
use Rattle.stream.proofs.progress.count_inputs.Goals as goal

pub returns : goal.returns
unfolding count_inputs
returns c = refl

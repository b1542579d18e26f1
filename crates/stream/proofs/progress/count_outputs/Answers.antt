use mathlib.Core.Path.{refl}
use Rattle.stream.specs.Progress.{count_outputs}
use Rattle.stream.proofs.progress.count_outputs.Goals as goal

pub returns : goal.returns
unfolding count_outputs
returns c = refl

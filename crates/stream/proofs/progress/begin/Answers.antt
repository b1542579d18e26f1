use Rattle.stream.specs.Progress.{begin}
use mathlib.Core.Path.{refl}
use Rattle.stream.proofs.progress.begin.Goals as goal

pub returns : goal.returns
unfolding begin
returns c = refl

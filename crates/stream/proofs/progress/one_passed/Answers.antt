use Rattle.stream.specs.Progress.{one_passed}
use mathlib.Core.Path.{refl}
use Rattle.stream.proofs.progress.one_passed.Goals as goal

pub returns : goal.returns
unfolding one_passed
returns c = refl

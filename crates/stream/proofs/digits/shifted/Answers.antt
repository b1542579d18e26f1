use Rattle.stream.specs.Progress.{shifted}
use Rattle.stream.proofs.digits.shifted.Goals as goal

pub returns : goal.returns
unfolding shifted
returns c = cc

use Rattle.stream.specs.Progress.{moved}
use Rattle.stream.proofs.digits.moved.Goals as goal

pub returns : goal.returns
unfolding moved
returns c = cc

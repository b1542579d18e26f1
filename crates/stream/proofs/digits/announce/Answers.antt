use Rattle.stream.specs.Progress.{announce}
use Rattle.stream.proofs.digits.announce.Goals as goal

pub returns : goal.returns
unfolding announce
returns c = cc

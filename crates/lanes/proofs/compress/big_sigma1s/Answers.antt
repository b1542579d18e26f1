use Rattle.lanes.specs.Lanes.{lanewise}
use Rattle.lanes.proofs.compress.big_sigma1s.Goals as goal

pub returns : goal.returns
unfolding lanewise
returns c = cc

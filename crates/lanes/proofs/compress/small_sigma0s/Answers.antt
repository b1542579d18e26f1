use Rattle.lanes.specs.Lanes.{lanewise}
use Rattle.lanes.proofs.compress.small_sigma0s.Goals as goal

pub returns : goal.returns
unfolding lanewise
returns c = cc

use Rattle.lanes.specs.Lanes.{lanewise3}
use Rattle.lanes.proofs.compress.majs.Goals as goal

pub returns : goal.returns
unfolding lanewise3
returns c = cc

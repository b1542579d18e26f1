use Rattle.hash.specs.Sha256.{◌⊞◌}
use Rattle.lanes.specs.Lanes.{lanewise2}
use Rattle.lanes.proofs.compress.plus.Goals as goal

pub returns : goal.returns
unfolding lanewise2 ◌⊞◌
returns c = cc

use Rattle.std.proofs.Common.{refl}
use Rattle.lanes.specs.Lanes.{nodes}
use Rattle.lanes.proofs.side_by_side.Goals as goal

pub returns : goal.returns
unfolding nodes
returns c = refl

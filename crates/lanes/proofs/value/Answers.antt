use Rattle.std.proofs.Common.{refl}
use Rattle.lanes.specs.Lanes.{value}
use Rattle.lanes.proofs.value.Goals as goal

pub returns : goal.returns
unfolding value
returns c = refl

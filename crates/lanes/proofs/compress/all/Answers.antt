use Rattle.std.proofs.Common.{refl}
use Rattle.lanes.specs.Lanes.{all}
use Rattle.lanes.proofs.compress.all.Goals as goal

pub returns : goal.returns
unfolding all
returns c = refl

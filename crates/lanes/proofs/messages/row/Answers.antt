use Rattle.std.proofs.Common.{refl}
use Rattle.lanes.specs.Lanes.{four}
use Rattle.lanes.proofs.messages.row.Goals as goal

pub returns : goal.returns
unfolding four
returns c = refl

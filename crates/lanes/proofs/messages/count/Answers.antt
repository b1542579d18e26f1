use Rattle.std.proofs.Common.{refl}
use Rattle.hash.specs.Parts.{blocks}
use Rattle.lanes.proofs.messages.count.Goals as goal

pub returns : goal.returns
unfolding blocks
returns c = refl

use Rattle.std.proofs.Common.{refl}
use Rattle.hash.specs.Sha256.{Maj, ◌⊕◌}
use Rattle.lanes.proofs.compress.maj.Goals as goal

pub returns : goal.returns
unfolding Maj ◌⊕◌
returns c = refl

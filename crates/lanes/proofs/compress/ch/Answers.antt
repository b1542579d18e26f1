use Rattle.std.proofs.Common.{refl}
use Rattle.hash.specs.Sha256.{Ch, ◌⊕◌, not32}
use Rattle.lanes.proofs.compress.ch.Goals as goal

pub returns : goal.returns
unfolding Ch ◌⊕◌ not32
returns c = refl

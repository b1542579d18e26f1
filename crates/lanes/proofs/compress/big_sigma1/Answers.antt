use Rattle.std.proofs.Common.{rules}
use Rattle.hash.specs.Sha256.{◌⊕◌, shr, shl}
use Rattle.lanes.proofs.Mixed.{mixed_Σ1}
use Rattle.lanes.proofs.compress.big_sigma1.Goals as goal

pub returns : goal.returns
unfolding ◌⊕◌ shr shl
returns c = mixed_Σ1 c.args.x (search rules)

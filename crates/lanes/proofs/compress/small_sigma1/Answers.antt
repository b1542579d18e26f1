use Rattle.std.proofs.Common.{rules}
use Rattle.hash.specs.Sha256.{◌⊕◌, shr, shl}
use Rattle.hash.proofs.Bitwise.{σ1-form}
use Rattle.lanes.proofs.compress.small_sigma1.Goals as goal

pub returns : goal.returns
unfolding ◌⊕◌ shr shl
returns c = σ1-form c.args.x (search rules)

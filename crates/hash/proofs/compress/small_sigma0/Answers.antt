use Rattle.std.proofs.Common.{rules}
use Rattle.hash.specs.Sha256.{◌⊕◌, shr, shl}
use Rattle.hash.proofs.Bitwise.{σ0-form}
use Rattle.hash.proofs.compress.small_sigma0.Goals as goal

pub returns : goal.returns
unfolding ◌⊕◌ shr shl
returns c = σ0-form c.args.x (search rules)

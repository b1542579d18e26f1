use Rattle.hash.specs.Sha256.{◌⊕◌}
use Rattle.hash.proofs.Bitwise.{maj_form}
use Rattle.hash.proofs.compress.maj.Goals as goal

pub returns : goal.returns
unfolding ◌⊕◌
returns c = maj_form c.args.x c.args.y c.args.z

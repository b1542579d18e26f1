use Rattle.hash.specs.Sha256.{plus, ◌⊞◌}
use Rattle.hash.proofs.compress.plus.Goals as goal

pub returns : goal.returns
unfolding plus ◌⊞◌
returns c = cc

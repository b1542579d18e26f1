use Rattle.hash.specs.Sha256.{◌⊞◌}
use Rattle.hash.proofs.compress.next_word.Goals as goal

pub returns : goal.returns
unfolding ◌⊞◌
returns c = cc

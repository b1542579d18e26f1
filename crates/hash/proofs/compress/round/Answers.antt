use Rattle.hash.specs.Sha256.{round, T1, T2, ◌⊞◌}
use Rattle.hash.proofs.compress.round.Goals as goal

pub returns : goal.returns
unfolding round T1 T2 ◌⊞◌
returns c = cc

use Rattle.stream.specs.HashState.{hashing_of, tail_of, value_of}
use Rattle.hash.specs.Sha256.{H}
use Rattle.stream.proofs.hashing.fresh.Goals as goal

pub returns : goal.returns
unfolding hashing_of value_of tail_of H
returns c = cc

-- A padded digest is one block.
use Rattle.hash.proofs.Digests.{digest-hashed}
use Rattle.hash.proofs.hash_digest.Goals as goal

pub returns : goal.returns
returns c = cc (digest-hashed c.args.s)

use Rattle.stream.proofs.Blocks.{finishes}
use Rattle.stream.proofs.hashing.finish.Goals as goal

pub returns : goal.returns
returns c = finishes c.args.h c.args.n c.closed_value.ensures c.hash_digest.ensures

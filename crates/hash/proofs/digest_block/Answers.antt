use Rattle.std.proofs.Common.{rules}
use Rattle.hash.proofs.Digests.{digest-block}
use Rattle.hash.proofs.digest_block.Goals as goal

pub returns : goal.returns
returns c = digest-block c.args.s (search rules) (search rules) (search rules) (search rules) (search rules) (search rules) (search rules) (search rules)

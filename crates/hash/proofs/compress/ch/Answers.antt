use Rattle.std.proofs.Common.{rules}
use Rattle.hash.specs.Sha256.{◌⊕◌}
use Rattle.hash.proofs.Bitwise.{ch_form}
use Rattle.hash.proofs.compress.ch.Goals as goal

pub returns : goal.returns
unfolding ◌⊕◌
returns c = ch_form c.args.x c.args.y c.args.z (search rules) (search rules)

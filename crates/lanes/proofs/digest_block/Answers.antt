use Rattle.lanes.proofs.SideBySide.{lanes-digest}
use Rattle.lanes.proofs.digest_block.Goals as goal

pub returns : goal.returns
returns c i = lanes-digest i c.args.s c.all-one.result c.all-none.result c.all-bits.result c.all-one.ensures c.all-none.ensures c.all-bits.ensures

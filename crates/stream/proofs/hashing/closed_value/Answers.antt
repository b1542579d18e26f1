use mathlib.Core.Path.{refl}
use Rattle.stream.proofs.Blocks.{closes-long, closes_short}
use Rattle.stream.proofs.hashing.closed_value.Goals as goal

pub returns-then-t-lt56 : goal.returns-then-t-lt56
returns-then-t-lt56 c = closes_short c.args.h c.args.n c.if-t-lt56.true c.block.ensures c.with_length.ensures c.unpacked-before.ensures c.compressed.ensures

pub returns : goal.returns
returns c = closes-long c.args.h c.args.n c.if-t-lt56.false c.block-2.ensures c.unpacked-before.ensures c.compressed-middle.ensures refl c.with_length-2.ensures c.compressed-2.ensures

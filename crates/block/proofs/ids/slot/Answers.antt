use native.Mathlib.Omega.{arith}
use Rattle.block.specs.Ids.{slot_at}
use Rattle.block.proofs.ids.slot.Goals as goal

pub returns : goal.returns
unfolding slot_at
returns c = (rw (c.from.ensures, c.from-2.ensures, c.from-3.ensures, c.from-4.ensures), omega arith)

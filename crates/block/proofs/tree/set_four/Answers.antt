use Rattle.block.specs.Heap.{set_four}
use Rattle.block.proofs.tree.set_four.Goals as goal

pub returns : goal.returns
unfolding set_four
returns c = cc

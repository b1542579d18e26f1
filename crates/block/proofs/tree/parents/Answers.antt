use Rattle.block.proofs.HeapLaws.{four_pairs}
use Rattle.block.proofs.tree.parents.Goals as goal

pub returns : goal.returns
returns c = four_pairs _ _ _ _ _ _ _ _ _ c.lefts.ensures c.rights.ensures c.join4.ensures

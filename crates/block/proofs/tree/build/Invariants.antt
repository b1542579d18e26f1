use Rattle.block.proofs.HeapLaws.{Building}
use Rattle.block.proofs.tree.build.Given as goal

abbrev pub invariant-loop-k : goal.invariant-loop-k
invariant-loop-k l = Building l.ids l.heap l.height l.n l.width l.count l.k

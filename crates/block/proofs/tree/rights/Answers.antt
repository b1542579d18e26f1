use Prim.Native.Nat.{ℕ, ◌*◌}
use Rattle.block.specs.Heap.{right_in}
use Rattle.block.proofs.HeapLaws.{four_in}
use Rattle.block.proofs.tree.rights.Goals as goal

pub returns : goal.returns
returns c = four_in (λ (x : ℕ). right_in c.args.ids.now c.args.heap.now c.args.base c.args.width c.args.count (2 * x)) c.args.j _ c.right_of-a.ensures c.right_of-b.ensures c.right_of-c.ensures c.right_of-d.ensures

use Prim.Native.Nat.{ℕ, ◌*◌}
use Rattle.block.specs.Heap.{node_in}
use Rattle.block.proofs.HeapLaws.{four_in}
use Rattle.block.proofs.tree.lefts.Goals as goal

pub returns : goal.returns
returns c = four_in (λ (x : ℕ). node_in c.args.ids.now c.args.heap.now c.args.base c.args.width (2 * x)) c.args.j _ c.node_at-a.ensures c.node_at-b.ensures c.node_at-c.ensures c.node_at-d.ensures

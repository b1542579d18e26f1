use Prim.Native.Nat.{◌/◌, ◌<◌, ◌≤◌}
use lib.ListN.{length}
use Rattle.block.specs.Heap.{Level, Grown}
use Rattle.block.proofs.HeapLaws.{Climbing}
use Rattle.block.proofs.tree.climb_from.Given as goal

abbrev pub invariant-loop-k : goal.invariant-loop-k
invariant-loop-k l = Level l.height l.k l.width × (l.j ≤ l.i) × (Grown l.ids l.heap l.height → l.i < length l.ids / 32 → Climbing l.ids l.height l.i l.k l.j)

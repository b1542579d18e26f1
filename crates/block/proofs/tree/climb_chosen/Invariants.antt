use mathlib.Core.Path.{◌≡◌}
use mathlib.Core.List.{List}
use Prim.Native.Nat.{ℕ, ◌-◌, ◌≤◌}
use Rattle.spv.specs.Hashes.{hashes_of}
use Rattle.block.specs.BlockBump.{climbs_from}
use Rattle.block.specs.Heap.{Grown}
use Rattle.block.specs.Marks.{Marked}
use Rattle.block.proofs.tree.climb_chosen.Given as goal

abbrev pub invariant-loop-i : goal.invariant-loop-i
invariant-loop-i l = (l.i ≤ l.n) × ((chosen : List ℕ) → Grown l.ids l.heap l.height → Marked l.marks chosen l.height → climbs_from (hashes_of l.ids) chosen l.i (l.n - l.i) ≡ climbs_from (hashes_of l.ids) chosen 0 l.n)

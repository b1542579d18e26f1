use mathlib.Core.Path.{◌≡◌}
use Prim.Native.Nat.{ℕ, ◌≤◌}
use mathlib.Core.List.{List}
use lib.ListN.{length}
use Rattle.spv.specs.Hashes.{hashes_of}
use Rattle.encoding.specs.Buffer.{buffer, write_on}
use Rattle.block.specs.Tree.{size as layer_size}
use Rattle.block.specs.Heap.{Level}
use Rattle.block.specs.Leaves.{Ready}
use Rattle.block.proofs.LevelLaws.{rest}
use Rattle.block.proofs.level.write_levels.Given as goal

abbrev pub invariant-loop-k : goal.invariant-loop-k
invariant-loop-k l = Level l.height l.k l.width × (l.count ≤ 1024) × (length l.out ≡ length l.initial.out) × ((chosen : List ℕ) → Ready l.ids l.heap l.marks chosen l.height l.n → (l.count ≡ layer_size (hashes_of l.ids) l.k) × (write_on (buffer l.initial.out l.at) (rest l.ids chosen l.height 0) ≡ write_on (buffer l.out l.next) (rest l.ids chosen l.height l.k)))

use mathlib.Core.Path.{◌≡◌}
use Prim.Native.Nat.{ℕ, ◌+◌, ◌*◌, ◌≤◌}
use mathlib.Core.List.{List}
use lib.ListN.{length}
use Rattle.spv.specs.Hashes.{hashes_of}
use Rattle.block.specs.Tree.{size as layer_size}
use Rattle.block.specs.Heap.{Level}
use Rattle.block.specs.Leaves.{Ready}
use Rattle.block.proofs.LevelLaws.{rest}
use Rattle.block.proofs.level.levels_size.Given as goal

abbrev pub invariant-loop-k : goal.invariant-loop-k
invariant-loop-k l = Level l.height l.k l.width × (l.count ≤ 1024) × (l.size ≤ 43017 * l.k) × ((list heap chosen : List ℕ) → Ready list heap l.marks chosen l.height l.n → (l.count ≡ layer_size (hashes_of list) l.k) × (l.size + length (rest list chosen l.height l.k) ≡ length (rest list chosen l.height 0)))

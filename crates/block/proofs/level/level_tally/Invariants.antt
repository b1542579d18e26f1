use mathlib.Core.Path.{◌≡◌}
use Prim.Native.Nat.{◌≤◌, ◌-◌, ◌+◌, ◌*◌}
use Rattle.block.specs.Leaves.{form_at, leaf_count, bytes_at, sum_from}
use Rattle.block.proofs.level.level_tally.Given as goal

abbrev pub invariant-loop-o : goal.invariant-loop-o
invariant-loop-o l = (l.leaves + sum_from (λ o. leaf_count (form_at l.marks l.base l.width l.count o)) l.o (l.width - l.o) ≡ sum_from (λ o. leaf_count (form_at l.marks l.base l.width l.count o)) 0 l.width) × (l.bytes + sum_from (λ o. bytes_at o (form_at l.marks l.base l.width l.count o)) l.o (l.width - l.o) ≡ sum_from (λ o. bytes_at o (form_at l.marks l.base l.width l.count o)) 0 l.width) × (l.o ≤ l.width) × (l.leaves ≤ l.o) × (l.bytes ≤ 42 * l.o)

use mathlib.Core.Path.{◌≡◌}
use Prim.Native.Nat.{◌≤◌, ◌-◌, ◌+◌}
use lib.ListN.{length, take}
use Rattle.format.specs.Parse.{each, many}
use Rattle.format.specs.Level.{leaf_field, leaf_fields, and_offset}
use Rattle.format.specs.Seen.{Slotted}
use Rattle.format.proofs.level.read_leaves.Given as goal

abbrev pub invariant-loop-i : goal.invariant-loop-i
invariant-loop-i r = (r.i ≤ r.count) × (length r.seen ≡ 1024) × Slotted r.slots (take r.i r.seen) × (each length (leaf_fields r.layout (r.greatest + 1) r.level r.count r.s r.initial.next.at) ≡ each (λ l. r.i + length l) (many (leaf_field r.layout (r.greatest + 1) r.level) and_offset (r.count - r.i) (take r.i r.seen) r.s r.next.at))

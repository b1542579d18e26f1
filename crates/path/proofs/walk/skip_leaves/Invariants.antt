use mathlib.Core.Path.{◌≡◌}
use Prim.Native.Nat.{◌≤◌, ◌-◌, ◌+◌}
use lib.ListN.{length}
use Rattle.format.specs.Parse.{each, times}
use Rattle.path.specs.Unchecked.{unchecked_leaf}
use Rattle.path.proofs.walk.skip_leaves.Given as goal

abbrev pub invariant-loop : goal.invariant-loop
invariant-loop r = (r.counter ≤ r.count) × (each length (times (unchecked_leaf r.layout) r.count r.s r.initial.next.at) ≡ each (λ l. r.counter + length l) (times (unchecked_leaf r.layout) (r.count - r.counter) r.s r.next.at))

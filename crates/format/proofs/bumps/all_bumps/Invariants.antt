use mathlib.Core.Path.{◌≡◌}
use Rattle.format.specs.Parse.{times, each}
use Rattle.format.specs.Bump.{bump_field}
use Prim.Native.Nat.{◌≤◌, ◌-◌, ◌+◌}
use lib.ListN.{length}
use Rattle.format.proofs.bumps.all_bumps.Given as goal

abbrev pub invariant-loop : goal.invariant-loop
invariant-loop r = (r.counter ≤ r.count) × (each length (times bump_field r.count r.s r.initial.next.at) ≡ each (λ l. r.counter + length l) (times bump_field (r.count - r.counter) r.s r.next.at))

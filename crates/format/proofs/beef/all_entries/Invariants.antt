use mathlib.Core.Path.{◌≡◌}
use Rattle.format.specs.Parse.{times, each}
use Rattle.format.specs.Beef.{entry_field}
use Prim.Native.Nat.{◌≤◌, ◌-◌, ◌+◌}
use lib.ListN.{length}
use Rattle.format.proofs.beef.all_entries.Given as goal

abbrev pub invariant-loop : goal.invariant-loop
invariant-loop r = (r.counter ≤ r.count) × (each length (times (entry_field r.bumps) r.count r.s r.initial.next.at) ≡ each (λ l. r.counter + length l) (times (entry_field r.bumps) (r.count - r.counter) r.s r.next.at))

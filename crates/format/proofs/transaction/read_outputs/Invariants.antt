use mathlib.Core.Path.{◌≡◌}
use Rattle.format.specs.Parse.{each, many}
use Rattle.format.specs.Transaction.{takes, output_field, outputs_field}
use Prim.Native.Nat.{◌≤◌, ◌-◌, ◌+◌}
use lib.ListN.{length}
use Rattle.format.proofs.transaction.read_outputs.Given as goal

abbrev pub invariant-loop : goal.invariant-loop
invariant-loop r = (r.counter ≤ r.count) × (each length (outputs_field r.limited r.count r.s r.initial.next.at) ≡ each (λ l. r.counter + length l) (many (λ total. output_field (takes r.limited total)) ◌+◌ (r.count - r.counter) r.total r.s r.next.at))

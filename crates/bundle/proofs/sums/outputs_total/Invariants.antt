use Prim.Native.Nat.{◌-◌, ◌≤◌}
use mathlib.Core.Path.{◌≡◌}
use Rattle.bundle.specs.BundleHeads.{total_from}
use Rattle.bundle.proofs.sums.outputs_total.Given as goal

abbrev pub invariant-loop : goal.invariant-loop
invariant-loop l = (l.counter ≤ l.count) × (total_from l.s (l.count - l.counter) l.total l.next.at ≡ total_from l.s l.count 0 l.initial.next.at)

use Prim.Native.Nat.{◌-◌, ◌≤◌}
use mathlib.Core.Path.{◌≡◌}
use Rattle.spv.specs.Hashes.{hashes_of}
use Rattle.bundle.specs.BundleHeads.{rests_from}
use Rattle.bundle.proofs.judge.rests_on.Given as goal

abbrev pub invariant-loop : goal.invariant-loop
invariant-loop l = (l.counter ≤ l.end) × (rests_from l.s (hashes_of l.ids) (l.end - l.counter) l.next.at ≡ rests_from l.s (hashes_of l.ids) l.end l.initial.next.at)

use Prim.Native.Nat.{◌-◌, ◌≤◌}
use mathlib.Core.Path.{◌≡◌}
use Rattle.spv.specs.Hashes.{hashes_of, Distinct}
use Rattle.bundle.specs.FlatForm.{exist_from}
use Rattle.bundle.proofs.outputs.outputs_there.Given as goal

abbrev pub invariant-loop : goal.invariant-loop
invariant-loop l = (l.counter ≤ l.count) × (Distinct (hashes_of l.ids) → exist_from l.s (hashes_of l.ids) l.numbers (l.count - l.counter) l.next.at ≡ exist_from l.s (hashes_of l.ids) l.numbers l.count l.initial.next.at)

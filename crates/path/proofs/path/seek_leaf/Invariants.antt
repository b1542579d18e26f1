use mathlib.Core.Path.{◌≡◌}
use Prim.Native.Nat.{◌≤◌, ◌-◌}
use Rattle.path.specs.Search.{seek}
use Rattle.path.proofs.path.seek_leaf.Given as goal

abbrev pub invariant-loop : goal.invariant-loop
invariant-loop l = (l.counter ≤ l.count) × (seek l.layout l.position l.count l.s l.initial.next.at ≡ seek l.layout l.position (l.count - l.counter) l.s l.next.at)

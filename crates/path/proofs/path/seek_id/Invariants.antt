use mathlib.Core.Path.{◌≡◌}
use Prim.Native.Nat.{◌≤◌, ◌-◌}
use Rattle.std.specs.Prelude.{None}
use Rattle.path.specs.Search.{seek_id}
use Rattle.path.proofs.path.seek_id.Given as goal

abbrev pub invariant-loop : goal.invariant-loop
invariant-loop l = (l.counter ≤ l.count) × (seek_id l.layout l.id l.count l.s l.initial.next.at None ≡ seek_id l.layout l.id (l.count - l.counter) l.s l.next.at l.best)

use Prim.Native.Nat.{◌≤◌, ◌-◌}
use mathlib.Core.Path.{◌≡◌}
use Rattle.spv.specs.Hashes.{hashes}
use Rattle.order.specs.Parents.{parents_from, all_named}
use Rattle.order.proofs.parents.put_parents.Given as goal

abbrev pub invariant-loop : goal.invariant-loop
invariant-loop l = (l.counter ≤ l.end) × (all_named (hashes l.n l.ids) l.i l.matrix (parents_from l.s (l.end - l.counter) l.next.at) ≡ all_named (hashes l.n l.ids) l.i l.initial.matrix (parents_from l.s l.end l.initial.next.at))

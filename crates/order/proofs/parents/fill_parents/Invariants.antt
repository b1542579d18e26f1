use Prim.Native.Nat.{◌≤◌, ◌-◌}
use mathlib.Core.Path.{◌≡◌}
use Rattle.spv.specs.Hashes.{hashes}
use Rattle.order.specs.Parents.{filled_from}
use Rattle.order.proofs.parents.fill_parents.Given as goal

abbrev pub invariant-loop-i : goal.invariant-loop-i
invariant-loop-i l = (l.i ≤ l.n) × (filled_from l.s (hashes l.n l.ids) (l.n - l.i) l.i l.next.at l.matrix ≡ filled_from l.s (hashes l.n l.ids) l.n 0 0 l.initial.matrix)

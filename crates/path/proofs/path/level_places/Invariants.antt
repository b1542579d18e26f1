use mathlib.Core.Path.{◌≡◌}
use Prim.Native.Nat.{◌≤◌, ◌-◌}
use lib.ListN.{length}
use Rattle.path.specs.Path.{placing, places}
use Rattle.path.proofs.path.level_places.Given as goal

abbrev pub invariant-loop-i : goal.invariant-loop-i
invariant-loop-i l = (l.i ≤ l.height) × (length l.known ≡ 64) × (places l.layout l.height l.s l.initial.next.at ≡ placing l.layout l.height (l.height - l.i) l.i l.s l.next.at l.known)

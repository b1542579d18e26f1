use Prim.Native.Nat.{◌≤◌}
use mathlib.Core.Path.{◌≡◌}
use lib.ListN.{length}
use Rattle.bundle.specs.Anchored.{Gathered}
use Rattle.bundle.proofs.anchored.gather.Given as goal

abbrev pub invariant-loop-i : goal.invariant-loop-i
invariant-loop-i l = (l.i ≤ l.n) × (l.count ≤ l.i) × (length l.slots ≡ length l.initial.slots) × (length l.hashes ≡ length l.initial.hashes) × Gathered l.anchors l.ids l.bump l.i l.slots l.hashes l.count

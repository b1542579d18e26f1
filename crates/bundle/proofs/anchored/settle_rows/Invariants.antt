use Prim.Native.Nat.{◌≤◌}
use mathlib.Core.Path.{◌≡◌}
use lib.ListN.{length}
use Rattle.bundle.specs.Anchored.{ENDS_ROOM, SettlesRows}
use Rattle.bundle.proofs.anchored.settle_rows.Given as goal

abbrev pub invariant-loop-r : goal.invariant-loop-r
invariant-loop-r l = (l.r ≤ length l.starts) × (length l.ends ≡ ENDS_ROOM) × SettlesRows l.roots l.layers l.bump l.ids l.slots l.starts l.states l.hashes l.costs l.initial.ends l.ends l.r

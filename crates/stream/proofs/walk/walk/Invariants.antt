use mathlib.Core.Path.{◌≡◌}
use Prim.Native.Nat.{◌-◌, ◌≤◌}
use lib.ListN.{length, drop}
use Rattle.std.specs.Prelude.{Ok}
use Rattle.stream.specs.Parts.{MAX_PARTS}
use Rattle.stream.specs.Progress.{run}
use Rattle.stream.proofs.walk.walk.Given as goal

abbrev pub invariant-loop-i : goal.invariant-loop-i
invariant-loop-i l = (l.i ≤ length l.part) × (run MAX_PARTS (Ok l.initial.field) l.part ≡ run MAX_PARTS (Ok l.field) (drop l.i l.part))

abbrev pub decreases-loop-i : goal.decreases-loop-i
decreases-loop-i l = length l.part - l.i

use mathlib.Core.Path.{◌≡◌}
use Rattle.stream.specs.HashState.{blocks_from}
use Prim.Native.Nat.{◌-◌, ◌≤◌}
use Rattle.stream.proofs.hashing.whole_blocks.Given as goal

abbrev pub invariant-loop-i : goal.invariant-loop-i
invariant-loop-i l = (l.i ≤ l.n) × (l.r ≡ blocks_from l.initial.r l.s l.i)

abbrev pub decreases-loop-i : goal.decreases-loop-i
decreases-loop-i l = l.n - l.i

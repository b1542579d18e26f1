use Prim.Native.Nat.{◌≤◌}
use Rattle.stream.specs.Parts.{MAX_PARTS}
use Rattle.stream.specs.Progress.{Outputs}
use Rattle.stream.proofs.walk.whole_outputs.Given as goal

abbrev pub invariant-loop-left : goal.invariant-loop-left
invariant-loop-left l = (l.from ≤ l.place) × (l.place ≤ l.end) × Outputs MAX_PARTS l.part l.end l.from l.count l.place l.left

abbrev pub decreases-loop-left : goal.decreases-loop-left
decreases-loop-left l = l.left

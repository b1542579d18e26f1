use Prim.Native.Nat.{◌≤◌}
use Rattle.bundle.proofs.WalkLaws.{Adds}
use Rattle.bundle.proofs.sums.add_outputs.Given as goal

abbrev pub invariant-loop-j : goal.invariant-loop-j
invariant-loop-j l = (l.j ≤ l.count) × Adds l.s l.numbers l.marks l.count l.initial.walk l.initial.sums l.j l.sums l.walk

use Prim.Native.Nat.{◌≤◌}
use Rattle.order.proofs.CodeLaws.{Searching}
use Rattle.order.proofs.placing.first_ready.Given as goal

abbrev pub invariant-loop-i : goal.invariant-loop-i
invariant-loop-i l = (l.i ≤ l.n) × Searching l.matrix l.marks l.n l.i

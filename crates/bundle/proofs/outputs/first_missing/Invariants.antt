use Prim.Native.Nat.{◌≤◌}
use Rattle.bundle.proofs.ShownLaws.{Passed}
use Rattle.bundle.proofs.outputs.first_missing.Given as goal

abbrev pub invariant-loop-k : goal.invariant-loop-k
invariant-loop-k l = (l.k ≤ l.n) × Passed l.s l.ids l.numbers l.n l.k

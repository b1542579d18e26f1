use Prim.Native.Nat.{◌≤◌}
use Rattle.order.specs.Code.{TellsRests}
use mathlib.Core.Bool.{true}
use Rattle.order.proofs.placing.rests.Given as goal

abbrev pub invariant-loop-j : goal.invariant-loop-j
invariant-loop-j l = (l.j ≤ l.n) × TellsRests l.matrix l.marks l.j l.i true

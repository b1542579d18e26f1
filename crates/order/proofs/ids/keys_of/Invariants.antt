use Prim.Native.Nat.{◌≤◌}
use Rattle.order.specs.Ids.{Keys}
use Rattle.order.proofs.ids.keys_of.Given as goal

abbrev pub invariant-loop-k : goal.invariant-loop-k
invariant-loop-k l = (l.k ≤ l.n) × Keys l.ids l.keys l.k

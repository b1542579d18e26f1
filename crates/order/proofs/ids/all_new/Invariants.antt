use Prim.Native.Nat.{◌≤◌}
use Rattle.spv.specs.Hashes.{hashes}
use Rattle.order.proofs.IdsLaws.{Newly}
use Rattle.order.proofs.ids.all_new.Given as goal

abbrev pub invariant-loop-i : goal.invariant-loop-i
invariant-loop-i l = (l.i ≤ l.n) × Newly (hashes l.n l.ids) l.i

use Prim.Native.Nat.{◌≤◌}
use Rattle.order.specs.Code.{Marks}
use mathlib.Core.Path.{◌≡◌}
use lib.ListN.{length, take, drop}
use Rattle.order.proofs.CodeLaws.{Placing}
use Rattle.order.proofs.placing.our_order.Given as goal

abbrev pub invariant-loop-k : goal.invariant-loop-k
invariant-loop-k l = (l.k ≤ l.n) × (length l.row ≡ length l.initial.row) × (length l.marks ≡ 256) × Marks l.marks (take l.k l.row) × Placing l.matrix l.n l.k l.row × (drop l.k l.row ≡ drop l.k l.initial.row)

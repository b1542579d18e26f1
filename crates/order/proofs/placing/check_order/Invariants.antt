use Prim.Native.Nat.{◌≤◌}
use Rattle.order.specs.Code.{Marks}
use mathlib.Core.Path.{◌≡◌}
use lib.ListN.{length, take}
use Rattle.order.proofs.CodeLaws.{Checking}
use Rattle.order.proofs.placing.check_order.Given as goal

abbrev pub invariant-loop-number : goal.invariant-loop-number
invariant-loop-number l = (l.number-index ≤ length l.order) × (length l.marks ≡ 256) × Marks l.marks (take l.number-index l.order) × Checking l.matrix l.order l.n l.number-index

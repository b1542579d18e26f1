use Prim.Native.Nat.{◌≤◌}
use mathlib.Core.Path.{◌≡◌}
use Rattle.spv.specs.Hashes.{hashes}
use Rattle.order.specs.Ids.{key_of}
use Rattle.order.proofs.IdsLaws.{Passed}
use Rattle.order.proofs.ids.find.Given as goal

abbrev pub invariant-loop-i : goal.invariant-loop-i
invariant-loop-i l = (l.i ≤ l.n) × (l.key ≡ key_of l.x) × Passed l.x (hashes l.n l.ids) l.i

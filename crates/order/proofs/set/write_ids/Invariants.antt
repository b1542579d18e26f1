use Prim.Native.Nat.{◌*◌}
use mathlib.Core.Path.{◌≡◌}
use lib.ListN.{length}
use Rattle.spv.specs.Spans.{Hashed}
use Rattle.order.specs.SetRead.{between}
use Rattle.order.proofs.set.write_ids.Given as goal

abbrev pub invariant-loop-k : goal.invariant-loop-k
invariant-loop-k l = (length l.ids ≡ 8192) × Hashed l.s (between l.places) (4 * l.k) l.ids

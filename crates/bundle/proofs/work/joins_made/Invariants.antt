use Prim.Native.Nat.{◌*◌, ◌≤◌}
use mathlib.Core.Path.{◌≡◌}
use Rattle.bundle.specs.Windows.{sum_to}
use Rattle.bundle.specs.WorkMade.{kept_joins}
use Rattle.bundle.proofs.work.joins_made.Given as goal

abbrev pub invariant-loop-k : goal.invariant-loop-k
invariant-loop-k l = (l.k ≤ l.n) × (l.joins ≡ sum_to (kept_joins l.anchors l.ends) l.k) × (l.joins ≤ 4294967296 * l.k)

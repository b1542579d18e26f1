use Prim.Native.Nat.{◌-◌, ◌*◌, ◌≤◌}
use mathlib.Core.Path.{◌≡◌}
use lib.ListN.{length}
use Rattle.bundle.specs.Windows.{sum_to}
use Rattle.bundle.specs.Ahead.{span_at, Onward, IdsFrom, AnchorsFrom}
use Rattle.bundle.specs.WorkMade.{work_below}
use Rattle.bundle.proofs.ids.write_ids.Given as goal

abbrev pub invariant-loop-i : goal.invariant-loop-i
invariant-loop-i l =
    (length l.ids ≡ length l.initial.ids) × Onward l.count l.s l.fn.start.at l.i l.next × IdsFrom l.count l.s l.fn.start.at l.i l.ids × AnchorsFrom l.count l.s l.fn.start.at l.i l.anchors
    × (l.work ≡ sum_to (λ k. work_below l.n k (span_at l.count l.s l.fn.start.at k)) l.i) × (l.work ≤ 262146 * l.i)

abbrev pub decreases-loop-i : goal.decreases-loop-i
decreases-loop-i l = l.n - l.i

-- Each word in turn takes the place of the one sixteen before it.
use Rattle.std.proofs.Common.{◌≡◌, ◌-◌, ◌≤◌, length}
use Rattle.lanes.proofs.SideBySide.{Going}
use Rattle.lanes.proofs.compress.next_sixteen.Given as goal

abbrev pub invariant-loop-t : goal.invariant-loop-t
invariant-loop-t l = (0 ≤ l.t) × (l.t ≤ 2) × (length l.w ≡ 16) × Going l.initial.w 0 l.w l.t

abbrev pub invariant-loop-t-2 : goal.invariant-loop-t-2
invariant-loop-t-2 l = (2 ≤ l.t) × (l.t ≤ 7) × (length l.w ≡ 16) × Going l.initial.w 2 l.w l.t

abbrev pub decreases-loop-t-2 : goal.decreases-loop-t-2
decreases-loop-t-2 l = 7 - l.t

abbrev pub invariant-loop-t-3 : goal.invariant-loop-t-3
invariant-loop-t-3 l = (7 ≤ l.t) × (l.t ≤ 15) × (length l.w ≡ 16) × Going l.initial.w 7 l.w l.t

abbrev pub decreases-loop-t-3 : goal.decreases-loop-t-3
decreases-loop-t-3 l = 15 - l.t

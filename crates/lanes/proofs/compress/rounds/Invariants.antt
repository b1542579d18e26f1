-- After t turns the working variables of each lane are those of t rounds.
use Rattle.std.proofs.Common.{◌≡◌, ℕ, ◌≤◌}
use Rattle.hash.specs.Parts.{rounds_by, sums}
use Rattle.lanes.specs.Lanes.{lane, lanes}
use Rattle.lanes.proofs.compress.rounds.Given as goal

abbrev pub invariant-loop-t : goal.invariant-loop-t
invariant-loop-t l = (l.t ≤ 16) × ((i : ℕ) → lane i l.r ≡ rounds_by (lane i l.initial.r) (sums l.k (lanes i l.w)) l.t)

-- After i turns each lane has the hash value of i blocks of its message, or of all.
use Rattle.std.proofs.Common.{◌≡◌, ℕ, ◌≤◌}
use Rattle.lanes.specs.Lanes.{lane, in_lane, after}
use Rattle.lanes.proofs.messages.together.Given as goal

abbrev pub invariant-loop-i : goal.invariant-loop-i
invariant-loop-i r = (r.i ≤ r.common) × ((l : ℕ) → lane l r.h ≡ after (in_lane l r.a r.b r.c r.d) r.i)

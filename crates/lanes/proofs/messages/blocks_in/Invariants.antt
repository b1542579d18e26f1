-- After t turns each lane has the first t words of its block.
use Rattle.std.proofs.Common.{◌≡◌, ℕ, ◌≤◌, length, take}
use Rattle.hash.specs.Sha256.{words}
use Rattle.lanes.specs.Lanes.{lanes, in_lane}
use Rattle.lanes.proofs.messages.blocks_in.Given as goal

abbrev pub invariant-loop-t : goal.invariant-loop-t
invariant-loop-t r = (r.t ≤ 16) × (length r.w ≡ 16) × ((l : ℕ) → take r.t (lanes l r.w) ≡ words (in_lane l r.a r.b r.c r.d) r.at r.t)

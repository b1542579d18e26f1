-- The left nodes' words, then the right ones'.
use Rattle.std.proofs.Common.{◌≡◌, ℕ, ◌-◌, ◌≤◌, ◌++◌, length, take}
use Rattle.hash.specs.Sha256.{words}
use Rattle.lanes.specs.Lanes.{lanes, node}
use Rattle.lanes.proofs.children.Given as goal

abbrev pub invariant-loop-t : goal.invariant-loop-t
invariant-loop-t l = (l.t ≤ 8) × (length l.w ≡ 16) × ((i : ℕ) → take l.t (lanes i l.w) ≡ words (node i l.left) 0 l.t)

abbrev pub invariant-loop-t-2 : goal.invariant-loop-t-2
invariant-loop-t-2 l = (8 ≤ l.t) × (l.t ≤ 16) × (length l.w ≡ 16) × ((i : ℕ) → take l.t (lanes i l.w) ≡ take 8 (lanes i l.initial.w) ++ words (node i l.right) 0 (l.t - 8))

abbrev pub decreases-loop-t-2 : goal.decreases-loop-t-2
decreases-loop-t-2 l = 16 - l.t

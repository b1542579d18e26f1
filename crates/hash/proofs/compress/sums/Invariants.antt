-- The first t sums are right.
use Rattle.std.proofs.Common.{◌≡◌, ◌≤◌, length, take}
use Rattle.hash.specs.Parts.{sums}
use Rattle.hash.proofs.compress.sums.Given as goal

abbrev pub invariant-loop-t : goal.invariant-loop-t
invariant-loop-t l = (l.t ≤ 16) × (length l.k ≡ 16) × (length l.w ≡ 16) × (length l.x ≡ 16) × (take l.t l.x ≡ take l.t (sums l.k l.w))

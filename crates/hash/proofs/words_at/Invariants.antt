-- After t turns the first t words are right.
use Rattle.std.proofs.Common.{◌≡◌, ◌≤◌, length, take}
use Rattle.hash.specs.Sha256.{words}
use Rattle.hash.proofs.words_at.Given as goal

abbrev pub invariant-loop-t : goal.invariant-loop-t
invariant-loop-t g l = (l.t ≤ g.row.N) × (length l.w ≡ g.row.N) × (take l.t l.w ≡ words l.s l.at l.t)

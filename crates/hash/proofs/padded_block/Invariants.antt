-- After t turns the first t words are right.
use Rattle.std.proofs.Common.{◌≡◌, ◌*◌, ◌≤◌, length, take}
use Rattle.hash.specs.Sha256.{pad, words}
use Rattle.hash.proofs.padded_block.Given as goal

abbrev pub invariant-loop-t : goal.invariant-loop-t
invariant-loop-t l = (l.t ≤ 16) × (length l.w ≡ 16) × (take l.t l.w ≡ words (pad l.s) (64 * l.i) l.t)

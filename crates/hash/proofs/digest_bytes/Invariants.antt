-- The bytes of the first t words are right.
use Rattle.std.proofs.Common.{◌≡◌, ◌*◌, ◌≤◌, length, take}
use Rattle.hash.proofs.Digests.{bytes_of}
use Rattle.hash.proofs.digest_bytes.Given as goal

abbrev pub invariant-loop-t : goal.invariant-loop-t
invariant-loop-t l = (l.t ≤ 8) × (length l.bytes ≡ 32) × (take (4 * l.t) l.bytes ≡ bytes_of (take l.t l.words))

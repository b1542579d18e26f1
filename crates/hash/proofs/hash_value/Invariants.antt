-- After i turns the hash value is that of i blocks.
use Rattle.std.proofs.Common.{◌≡◌, ◌≤◌}
use Rattle.hash.specs.Sha256.{H, pad}
use Rattle.hash.proofs.hash_value.Given as goal

abbrev pub invariant-loop-i : goal.invariant-loop-i
invariant-loop-i l = (l.i ≤ l.blocks) × (l.h ≡ H (pad l.s) l.i)

-- `big_sigma1` meets its contract: the definition's own expression. Assumes nothing.
use Rattle.std.proofs.Common.{refl}
use Rattle.hash.specs.Sha256.{Σ1, ◌⊕◌, rotr, shr, shl}
use Rattle.hash.proofs.compress.big_sigma1.Goals as goal

pub returns : goal.returns
unfolding Σ1 ◌⊕◌ rotr shr shl
returns c = rw (c.rotate_right.ensures, c.rotate_right-2.ensures, c.rotate_right-3.ensures) refl

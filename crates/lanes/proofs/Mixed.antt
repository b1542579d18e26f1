-- The rotations of Σ0 and Σ1, taken apart: each is an exclusive or of two shifts, and the shifts may be taken in another order.
-- Assumes nothing.
use Rattle.std.proofs.Common.{◌≡◌, ℕ, ◌*◌, ◌/◌, ◌%◌, ◌^◌, ◌<◌, ap, ◌∙◌, arith}
use Rattle.hash.specs.Sha256.{◌⊕◌, rotr, shl, shr, Σ0, Σ1}
use Rattle.hash.proofs.Bitwise.{right, crossed, parts}

turned : (p q r s u v : ℕ) → p ⊕ s ⊕ (r ⊕ v) ⊕ (u ⊕ q) ≡ p ⊕ q ⊕ (r ⊕ s) ⊕ (u ⊕ v)
turned p q r s u v =
    ap (λ (z : ℕ). z ⊕ (u ⊕ q)) (crossed p s r v) ∙ right (p ⊕ v) (r ⊕ s) (u ⊕ q) ∙ ap (λ (z : ℕ). z ⊕ (r ⊕ s)) (crossed p v u q)
    ∙ right (p ⊕ q) (u ⊕ v) (r ⊕ s)

pub mixed_Σ0 : (x : ℕ) → x < 2 ^ 32 → shr 2 x ⊕ shl 19 x ⊕ (shr 13 x ⊕ shl 10 x) ⊕ (shr 22 x ⊕ shl 30 x) ≡ Σ0 x
unfolding Σ0 rotr shl shr
mixed_Σ0 x h =
    rw (
      parts x 2 30 (x % 2 ^ 2) (omega arith) (omega arith),
      parts x 13 19 (x % 2 ^ 13) (omega arith) (omega arith),
      parts x 22 10 (x % 2 ^ 22) (omega arith) (omega arith),
    )
    (turned (x / 2 ^ 2) (x * 2 ^ 30 % 2 ^ 32) (x / 2 ^ 13) (x * 2 ^ 19 % 2 ^ 32) (x / 2 ^ 22) (x * 2 ^ 10 % 2 ^ 32))

pub mixed_Σ1 : (x : ℕ) → x < 2 ^ 32 → shr 6 x ⊕ shl 21 x ⊕ (shr 11 x ⊕ shl 7 x) ⊕ (shr 25 x ⊕ shl 26 x) ≡ Σ1 x
unfolding Σ1 rotr shl shr
mixed_Σ1 x h =
    rw (
      parts x 6 26 (x % 2 ^ 6) (omega arith) (omega arith),
      parts x 11 21 (x % 2 ^ 11) (omega arith) (omega arith),
      parts x 25 7 (x % 2 ^ 25) (omega arith) (omega arith),
    )
    (turned (x / 2 ^ 6) (x * 2 ^ 26 % 2 ^ 32) (x / 2 ^ 11) (x * 2 ^ 21 % 2 ^ 32) (x / 2 ^ 25) (x * 2 ^ 7 % 2 ^ 32))

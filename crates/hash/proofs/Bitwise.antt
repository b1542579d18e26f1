-- Other forms of four of the six functions of section 4.1.2, with fewer steps or without rotations: laws of operations bit by bit.
-- Assumes nothing.
use Rattle.std.proofs.Common.{◌≡◌, ℕ, zero, suc, ◌+◌, ◌-◌, ◌*◌, ◌/◌, ◌%◌, ◌^◌, ◌<◌, ◌≤◌, sym, refl, ap, ◌∙◌, ap₂, mod-eq_of_lt, arith}
use lib.Bits.{bit_and, bit_or, bit_xor, and_comm, and_self, and_mask, and_shifted, and_shr, and_mod, or_disjoint, xor_comm, xor_self, xor_zero_l, xor_add_and, xor_disjoint, xor_shr, xor_mod}
use Rattle.hash.specs.Sha256.{◌⊕◌, not32, rotr, shl, shr, Ch, Maj, σ0, σ1}

-- An operation that works on the last bits and on the rest apart.
abbrev Bitwise : (ℕ → ℕ → ℕ → ℕ) → Type 0
Bitwise f = ((a b c : ℕ) → f a b c / 2 ≡ f (a / 2) (b / 2) (c / 2)) × ((a b c : ℕ) → f a b c % 2 ≡ f (a % 2) (b % 2) (c % 2))

-- Two operations that agree on bits.
abbrev Alike : (ℕ → ℕ → ℕ → ℕ) → (ℕ → ℕ → ℕ → ℕ) → Type 0
Alike f g = (a b c : ℕ) → a < 2 → b < 2 → c < 2 → f a b c ≡ g a b c

alike : (f g : ℕ → ℕ → ℕ → ℕ) → f 0 0 0 ≡ g 0 0 0 → f 0 0 1 ≡ g 0 0 1 → f 0 1 0 ≡ g 0 1 0 → f 0 1 1 ≡ g 0 1 1
    → f 1 0 0 ≡ g 1 0 0 → f 1 0 1 ≡ g 1 0 1 → f 1 1 0 ≡ g 1 1 0 → f 1 1 1 ≡ g 1 1 1 → Alike f g
alike f g i j k l m n o p zero zero zero q r s = i
alike f g i j k l m n o p zero zero (suc zero) q r s = j
alike f g i j k l m n o p zero (suc zero) zero q r s = k
alike f g i j k l m n o p zero (suc zero) (suc zero) q r s = l
alike f g i j k l m n o p (suc zero) zero zero q r s = m
alike f g i j k l m n o p (suc zero) zero (suc zero) q r s = n
alike f g i j k l m n o p (suc zero) (suc zero) zero q r s = o
alike f g i j k l m n o p (suc zero) (suc zero) (suc zero) q r s = p
alike f g i j k l m n o p (suc (suc a)) b c q r s = absurd (omega arith)
alike f g i j k l m n o p zero (suc (suc b)) c q r s = absurd (omega arith)
alike f g i j k l m n o p (suc zero) (suc (suc b)) c q r s = absurd (omega arith)
alike f g i j k l m n o p zero zero (suc (suc c)) q r s = absurd (omega arith)
alike f g i j k l m n o p zero (suc zero) (suc (suc c)) q r s = absurd (omega arith)
alike f g i j k l m n o p (suc zero) zero (suc (suc c)) q r s = absurd (omega arith)
alike f g i j k l m n o p (suc zero) (suc zero) (suc (suc c)) q r s = absurd (omega arith)

by_half : (m n : ℕ) → m / 2 ≡ n / 2 → m % 2 ≡ n % 2 → m ≡ n
by_half m n p q = omega arith

below : (f g : ℕ → ℕ → ℕ → ℕ) → Bitwise f → Bitwise g → Alike f g → (n a b c : ℕ) → a ≤ n → b ≤ n → c ≤ n → f a b c ≡ g a b c
below f g u v e zero a b c p q r = e a b c (omega arith) (omega arith) (omega arith)
below f g u v e (suc n) a b c p q r =
    by_half (f a b c) (g a b c)
    (u.0 a b c ∙ below f g u v e n (a / 2) (b / 2) (c / 2) (omega arith) (omega arith) (omega arith) ∙ sym (v.0 a b c))
    (u.1 a b c ∙ e (a % 2) (b % 2) (c % 2) (omega arith) (omega arith) (omega arith) ∙ sym (v.1 a b c))

bit_by_bit : (f g : ℕ → ℕ → ℕ → ℕ) → Bitwise f → Bitwise g → Alike f g → (a b c : ℕ) → f a b c ≡ g a b c
bit_by_bit f g u v e a b c = below f g u v e (a + b + c) a b c (omega arith) (omega arith) (omega arith)

pub xor_assoc : (a b c : ℕ) → a ⊕ b ⊕ c ≡ a ⊕ (b ⊕ c)
unfolding ◌⊕◌
xor_assoc =
    bit_by_bit (λ a b c. bit_xor (bit_xor a b) c) (λ a b c. bit_xor a (bit_xor b c))
    (λ a b c. xor_shr (bit_xor a b) c 1 ∙ ap (λ (u : ℕ). bit_xor u (c / 2)) (xor_shr a b 1), λ a b c. xor_mod (bit_xor a b) c 1 ∙ ap (λ (u : ℕ). bit_xor u (c % 2)) (xor_mod a b 1))
    (λ a b c. xor_shr a (bit_xor b c) 1 ∙ ap (λ (u : ℕ). bit_xor (a / 2) u) (xor_shr b c 1), λ a b c. xor_mod a (bit_xor b c) 1 ∙ ap (λ (u : ℕ). bit_xor (a % 2) u) (xor_mod b c 1))
    (alike (λ a b c. bit_xor (bit_xor a b) c) (λ a b c. bit_xor a (bit_xor b c)) refl refl refl refl refl refl refl refl)

and_xor : (a b c : ℕ) → bit_and a (b ⊕ c) ≡ bit_and a b ⊕ bit_and a c
unfolding ◌⊕◌
and_xor =
    bit_by_bit (λ a b c. bit_and a (bit_xor b c)) (λ a b c. bit_xor (bit_and a b) (bit_and a c))
    (λ a b c. and_shr a (bit_xor b c) 1 ∙ ap (λ (u : ℕ). bit_and (a / 2) u) (xor_shr b c 1), λ a b c. and_mod a (bit_xor b c) 1 ∙ ap (λ (u : ℕ). bit_and (a % 2) u) (xor_mod b c 1))
    (λ a b c. xor_shr (bit_and a b) (bit_and a c) 1 ∙ ap₂ bit_xor (and_shr a b 1) (and_shr a c 1), λ a b c. xor_mod (bit_and a b) (bit_and a c) 1 ∙ ap₂ bit_xor (and_mod a b 1) (and_mod a c 1))
    (alike (λ a b c. bit_and a (bit_xor b c)) (λ a b c. bit_xor (bit_and a b) (bit_and a c)) refl refl refl refl refl refl refl refl)

pub xor_swap : (a b : ℕ) → a ⊕ b ≡ b ⊕ a
unfolding ◌⊕◌
xor_swap a b = xor_comm a b

xor_and : (a b c : ℕ) → bit_and (a ⊕ b) c ≡ bit_and a c ⊕ bit_and b c
xor_and a b c = and_comm (a ⊕ b) c ∙ and_xor c a b ∙ ap₂ ◌⊕◌ (and_comm c a) (and_comm c b)

none : (a b : ℕ) → a ⊕ a ⊕ b ≡ b
unfolding ◌⊕◌
none a b = ap (λ (u : ℕ). bit_xor u b) (xor_self a) ∙ xor_zero_l b

-- What is added twice is not there.
xor_twice : (a b : ℕ) → a ⊕ (b ⊕ a) ≡ b
xor_twice a b = ap (λ (u : ℕ). a ⊕ u) (xor_swap b a) ∙ sym (xor_assoc a a b) ∙ none a b

pub maj_form : (x y z : ℕ) → y ⊕ bit_and (x ⊕ y) (y ⊕ z) ≡ Maj x y z
unfolding Maj
maj_form x y z =
    ap (λ (u : ℕ). y ⊕ u) (and_xor (x ⊕ y) y z ∙ ap₂ ◌⊕◌ (xor_and x y y ∙ ap (λ (u : ℕ). bit_and x y ⊕ u) (and_self y)) (xor_and x y z))
    ∙ sym (xor_assoc y (bit_and x y ⊕ y) (bit_and x z ⊕ bit_and y z)) ∙ ap (λ (u : ℕ). u ⊕ (bit_and x z ⊕ bit_and y z)) (xor_twice y (bit_and x y))
    ∙ sym (xor_assoc (bit_and x y) (bit_and x z) (bit_and y z))

ones_of : (x : ℕ) → x < 2 ^ 32 → bit_and x (2 ^ 32 - 1) ≡ x
ones_of x h = and_mask x 32 ∙ mod-eq_of_lt h

not_xor : (x : ℕ) → x < 2 ^ 32 → x ⊕ (2 ^ 32 - 1) ≡ not32 x
unfolding ◌⊕◌ not32
not_xor x h =
    let e = xor_add_and x (2 ^ 32 - 1) in
    let o = ones_of x h in
    left (bit_xor x (2 ^ 32 - 1)) x (rw o at e)
  where
    left : (u x : ℕ) → u + x * 2 ≡ x + (2 ^ 32 - 1) → u ≡ 2 ^ 32 - 1 - x
    left u x e = omega arith

pub ch_form : (x y z : ℕ) → x < 2 ^ 32 → z < 2 ^ 32 → z ⊕ bit_and x (y ⊕ z) ≡ Ch x y z
unfolding Ch
ch_form x y z h l =
    let n : bit_and (not32 x) z ≡ bit_and x z ⊕ z = ap (λ (u : ℕ). bit_and u z) (sym (not_xor x h)) ∙ xor_and x (2 ^ 32 - 1) z
    ∙ ap (λ (u : ℕ). bit_and x z ⊕ u) (and_comm (2 ^ 32 - 1) z ∙ ones_of z l) in
    xor_swap z (bit_and x (y ⊕ z)) ∙ ap (λ (u : ℕ). u ⊕ z) (and_xor x y z) ∙ xor_assoc (bit_and x y) (bit_and x z) z
    ∙ ap (λ (u : ℕ). bit_and x y ⊕ u) (sym n)

-- The last two change places.
pub right : (a b c : ℕ) → a ⊕ b ⊕ c ≡ a ⊕ c ⊕ b
right a b c = xor_assoc a b c ∙ ap (λ (u : ℕ). a ⊕ u) (xor_swap b c) ∙ sym (xor_assoc a c b)

pub crossed : (a b c d : ℕ) → a ⊕ b ⊕ (c ⊕ d) ≡ a ⊕ d ⊕ (c ⊕ b)
crossed a b c d =
    sym (xor_assoc (a ⊕ b) c d) ∙ ap (λ (u : ℕ). u ⊕ d) (right a b c) ∙ right (a ⊕ c) b d ∙ ap (λ (u : ℕ). u ⊕ b) (right a c d) ∙ xor_assoc (a ⊕ d) c b

-- A rotation's two shifts have no bit in common.
pub parts : (x n k y : ℕ) → x / 2 ^ n < 2 ^ k → x * 2 ^ k % 2 ^ 32 ≡ y * 2 ^ k → bit_or (x / 2 ^ n) (x * 2 ^ k % 2 ^ 32) ≡ x / 2 ^ n ⊕ x * 2 ^ k % 2 ^ 32
unfolding ◌⊕◌
parts x n k y h e =
    let z : bit_and (x / 2 ^ n) (x * 2 ^ k % 2 ^ 32) ≡ 0 = rw e (and_comm (x / 2 ^ n) (y * 2 ^ k) ∙ and_shifted y k (x / 2 ^ n) h) in
    or_disjoint (x / 2 ^ n) (x * 2 ^ k % 2 ^ 32) z ∙ sym (xor_disjoint (x / 2 ^ n) (x * 2 ^ k % 2 ^ 32) z)

pub σ0-form : (x : ℕ) → x < 2 ^ 32 → shr 7 x ⊕ shl 14 x ⊕ (shr 18 x ⊕ shl 25 x) ⊕ shr 3 x ≡ σ0 x
unfolding σ0 rotr shl shr
σ0-form x h =
    rw (
      parts x 7 25 (x % 2 ^ 7) (omega arith) (omega arith),
      parts x 18 14 (x % 2 ^ 18) (omega arith) (omega arith),
    )
    (ap (λ (z : ℕ). z ⊕ x / 2 ^ 3) (crossed (x / 2 ^ 7) (x * 2 ^ 14 % 2 ^ 32) (x / 2 ^ 18) (x * 2 ^ 25 % 2 ^ 32)))

pub σ1-form : (x : ℕ) → x < 2 ^ 32 → shr 17 x ⊕ shl 13 x ⊕ (shr 19 x ⊕ shl 15 x) ⊕ shr 10 x ≡ σ1 x
unfolding σ1 rotr shl shr
σ1-form x h =
    rw (
      parts x 17 15 (x % 2 ^ 17) (omega arith) (omega arith),
      parts x 19 13 (x % 2 ^ 19) (omega arith) (omega arith),
    )
    (ap (λ (z : ℕ). z ⊕ x / 2 ^ 10) (crossed (x / 2 ^ 17) (x * 2 ^ 13 % 2 ^ 32) (x / 2 ^ 19) (x * 2 ^ 15 % 2 ^ 32)))

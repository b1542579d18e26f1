-- Laws of numbers written little end first.
use mathlib.Core.Path.{◌≡◌, refl, sym, ap, ap₂, ◌∙◌}
use mathlib.Core.List.{List, [], ◌∷◌}
use Prim.Native.Nat.{ℕ, zero, suc, ◌+◌, ◌*◌, ◌/◌, ◌%◌, ◌^◌, ◌<◌}
use lib.ListN.{length, get_or}
use native.Mathlib.Omega.{arith}
use native.Mathlib.Nat.{pow-suc, add_assoc, div-one}
use Rattle.std.proofs.Math.Nat.{div-div-eq-div-mul}
use Rattle.std.specs.Int.{byte_at, bytes_low_first}
use Rattle.format.specs.Field.{le2, le4, le8}
use Rattle.encoding.proofs.Stands.{Stands, stands-split}
use Rattle.encoding.proofs.Encoding.{first-is}
use Rattle.encoding.specs.Digits.{little}
use Rattle.encoding.specs.Encode.{AllBytes}

-- the number that bytes make
unfoldable pub num : List ℕ → ℕ
num [] = 0
num (x ∷ l) = x + 256 * num l

-- .. and that w bytes at a place make
unfoldable pub num_at : List ℕ → ℕ → ℕ → ℕ
num_at s at zero = 0
num_at s at (suc w) = get_or s at 0 + 256 * num_at s (at + 1) w

pub little-length : (w n : ℕ) → length (little w n) ≡ w
unfolding little
little-length zero n = refl
little-length (suc w) n = ap suc (little-length w (n / 256))

low_first : (i w n : ℕ) → bytes_low_first i w n ≡ little w (n / 256 ^ i)
unfolding little
low_first i zero n = refl
low_first i (suc w) n = ap₂ ◌∷◌ (first i) (low_first (suc i) w n ∙ ap (little w) (sym (div-div-eq-div-mul n (256 ^ i) 256 ∙ ap (λ (k : ℕ). n / k) (sym (pow-suc 256 i)))))
  where
    first : (i : ℕ) → byte_at i n ≡ n / 256 ^ i % 256
    first zero = ap (λ (k : ℕ). k % 256) (sym (div-one n))
    first (suc i) = refl

-- the bytes that a number's own method gives
pub little-bytes : (w n : ℕ) → bytes_low_first 0 w n ≡ little w n
little-bytes w n = low_first 0 w n ∙ ap (little w) (div-one n)

pub num_little : (w n : ℕ) → n < 256 ^ w → num (little w n) ≡ n
unfolding num little
num_little zero n h = omega arith
num_little (suc w) n h =
    let e = pow-suc 256 w in
    let r = num_little w (n / 256) (omega arith) in
    omega arith

pub little_num : (l : List ℕ) → AllBytes l → little (length l) (num l) ≡ l
unfolding num little
little_num [] h = refl
little_num (x ∷ l) h =
    let b : x < 256 = h 0 in
    let d : (x + 256 * num l) / 256 ≡ num l = omega arith in
    let m : (x + 256 * num l) % 256 ≡ x = omega arith in
    ap₂ ◌∷◌ m (ap (little (length l)) d ∙ little_num l (λ i. h (suc i)))

pub num_below : (l : List ℕ) → AllBytes l → num l < 256 ^ length l
unfolding num
num_below [] h = omega arith
num_below (x ∷ l) h =
    let b : x < 256 = h 0 in
    let r = num_below l (λ i. h (suc i)) in
    let e = pow-suc 256 (length l) in
    omega arith

pub num_stands : (s : List ℕ) (at : ℕ) (bs : List ℕ) (q : ℕ) → Stands s at bs q → num_at s at (length bs) ≡ num bs
unfolding num num_at
num_stands s at [] q a = refl
num_stands s at (x ∷ bs) q a =
    ap₂ (λ (m n : ℕ). m + 256 * n) (first-is a) (num_stands s (at + 1) bs q (stands-split (x ∷ []) bs a).1)

pub le2-is : (s : List ℕ) (at : ℕ) → le2 s at ≡ num_at s at 2
unfolding num_at
le2-is s at = omega arith

pub le4-is : (s : List ℕ) (at : ℕ) → le4 s at ≡ num_at s at 4
unfolding num_at
le4-is s at = simp add_assoc (omega arith)

pub le8-is : (s : List ℕ) (at : ℕ) → le8 s at ≡ num_at s at 8
unfolding num_at
le8-is s at = simp add_assoc (omega arith)

-- Laws of positions under a sibling.
use Prim.Native.Nat.{ℕ, suc, ◌+◌, ◌-◌, ◌*◌, ◌/◌, ◌%◌, ◌^◌, ◌≤◌, ◌<◌}
use native.Mathlib.Nat.{pow-suc, mul_comm, le_trans}
use mathlib.Core.Path.{◌≡◌, refl, ap, ◌∙◌, subst}
use mathlib.Core.Bool.{Bool, true, false}
use native.Mathlib.Omega.{arith}
use lib.Dec.{eqb, ltb}
use lib.Pow.{pow_mono}
use borrow.Author.Tests.{eqb-true, eqb-false, ltb-true, ltb-false}
use Rattle.spv.specs.Climb.{sibling_position}
use Rattle.spv.proofs.ClimbLaws.{sibling-odd, sibling-even}
use Rattle.spv.specs.PositionFits.{PositionFits}

twice : (k : ℕ) → k < 64 → 2 ^ (64 - k) ≡ 2 * 2 ^ (64 - (k + 1))
twice k b = let e : 64 - k ≡ suc (64 - (k + 1)) = omega arith in ap (λ (n : ℕ). 2 ^ n) e ∙ pow-suc 2 (64 - (k + 1)) ∙ mul_comm (2 ^ (64 - (k + 1))) 2

pub low-start : (i : ℕ) → i < 2 ^ 64 → PositionFits 0 i
unfolding PositionFits
low-start i l = l

pub low_half : (k j : ℕ) → PositionFits k j → PositionFits (k + 1) (j / 2)
unfolding PositionFits
low_half k j l = go (ltb k 64) refl
  where
    go : (t : Bool) → ltb k 64 ≡ t → j / 2 < 2 ^ (64 - (k + 1))
    go true e = omega (arith, twice k (ltb-true k 64 e), l)
    go false e =
        let h : 64 ≤ k = ltb-false k 64 e in
        let x : 2 ^ (64 - k) ≡ 1 = (let z : 64 - k ≡ 0 = omega arith in ap (λ (n : ℕ). 2 ^ n) z) in
        let y : 2 ^ (64 - (k + 1)) ≡ 1 = (let z : 64 - (k + 1) ≡ 0 = omega arith in ap (λ (n : ℕ). 2 ^ n) z) in
        omega (arith, x, y, l)

-- the same of a climb that is e layers above another
pub low-next : (e k j : ℕ) → PositionFits (k + e) j → PositionFits (k + 1 + e) (j / 2)
low-next e k j l = let n : k + e + 1 ≡ k + 1 + e = omega arith in subst (λ (m : ℕ). PositionFits m (j / 2)) n (low_half (k + e) j l)

pub low-sibling : (k j : ℕ) → k < 64 → PositionFits k j → PositionFits k (sibling_position j)
unfolding PositionFits
low-sibling k j b l = go (eqb (j % 2) 1) refl
  where
    go : (t : Bool) → eqb (j % 2) 1 ≡ t → sibling_position j < 2 ^ (64 - k)
    go true e = omega (arith, sibling-odd j (eqb-true (j % 2) 1 e), l)
    go false e =
        let n : sibling_position j ≡ j + 1 = sibling-even j (eqb-false (j % 2) 1 e) in
        let w = eqb-false (j % 2) 1 e in
        omega (arith, n, w, twice k b, l)

-- a lower layer has more positions
pub low_lower : (e k j : ℕ) → PositionFits (k + e) j → PositionFits k j
unfolding PositionFits
low_lower e k j l = let m : 64 - (k + e) ≤ 64 - k = omega arith in le_trans l (pow_mono m)

-- the children of a node above layer 0
pub low_right : (k q : ℕ) → (k ≡ 0 → ⊥) → k ≤ 64 → PositionFits k q → PositionFits (k - 1) (2 * q + 1)
unfolding PositionFits
low_right k q ne b l =
    let e : 64 - (k - 1 + 1) ≡ 64 - k = omega arith in
    omega (arith, twice (k - 1) (omega arith), ap (λ (n : ℕ). 2 ^ n) e, l)

pub low-left : (k q : ℕ) → (k ≡ 0 → ⊥) → k ≤ 64 → PositionFits k q → PositionFits (k - 1) (2 * q)
unfolding PositionFits
low-left k q ne b l =
    let e : 64 - (k - 1 + 1) ≡ 64 - k = omega arith in
    omega (arith, twice (k - 1) (omega arith), ap (λ (n : ℕ). 2 ^ n) e, l)

pub low_fits : (k q : ℕ) → PositionFits k q → q < 2 ^ 64
unfolding PositionFits
low_fits k q l = let m : 64 - k ≤ 64 = omega arith in le_trans l (pow_mono m)

-- Laws of tests.
use Prim.Native.Nat.{ℕ}
use mathlib.Core.Path.{◌≡◌, refl}
use mathlib.Core.Bool.{Bool, true, false, not, ◌&&◌, ◌||◌}
use mathlib.Core.Logic.{◌⊎◌, inl, inr}
use native.Mathlib.Omega.{arith}

pub clash : {A : Type 0} (t : Bool) → t ≡ true → t ≡ false → A
clash t p q = absurd (let z : ◌≡◌ {A = ℕ} 0 1 = cc in omega arith)

pub and_left : (a b : Bool) → (a && b) ≡ true → a ≡ true
and_left true b e = refl
and_left false b e = clash false e refl

pub and_right : (a b : Bool) → (a && b) ≡ true → b ≡ true
and_right true b e = e
and_right false b e = clash false e refl

pub and_both : (a b : Bool) → a ≡ true → b ≡ true → (a && b) ≡ true
and_both a b p q = rw (p, q)

pub or_told : (a b : Bool) → (a || b) ≡ true → (a ≡ true) ⊎ (b ≡ true)
or_told true b e = inl refl
or_told false b e = inr e

pub or_left : (a b : Bool) → a ≡ true → (a || b) ≡ true
or_left a b p = rw p

pub or_right : (a b : Bool) → b ≡ true → (a || b) ≡ true
or_right true b p = refl
or_right false b p = p

-- an implication as a test
pub implies_told : (a b : Bool) → (not a || b) ≡ true → a ≡ true → b ≡ true
implies_told true b e h = e
implies_told false b e h = clash false h refl

pub told_implies : (a b : Bool) → (a ≡ true → b ≡ true) → (not a || b) ≡ true
told_implies true b f = f refl
told_implies false b f = refl

-- a test that is not true is false
pub else_false : (t : Bool) → (t ≡ true → ⊥) → t ≡ false
else_false true f = absurd (f refl)
else_false false f = refl

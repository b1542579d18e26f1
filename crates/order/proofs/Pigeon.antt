-- Different numbers, each among others, are no more than those.
use Prim.Native.Nat.{ℕ, zero, suc, ◌<◌, ◌≤◌}
use mathlib.Core.Path.{◌≡◌, refl, sym, ap, ◌∙◌}
use mathlib.Core.Bool.{Bool, true, false, ◌||◌}
use mathlib.Core.List.{List, [], ◌∷◌}
use mathlib.Core.Logic.{◌⊎◌, inl, inr}
use native.Mathlib.Omega.{arith}
use lib.Dec.{eqb}
use lib.ListN.{length, get_or}
use borrow.Author.Tests.{eqb-true, eqb-false, eq-eqb}
use Rattle.format.specs.Parse.{pick}
use Rattle.spv.proofs.TestLaws.{clash, or_told, or_left, or_right, else_false}
use Rattle.order.proofs.ListedLaws.{listed-told}
use Rattle.order.specs.Listed.{listed}

-- no number stands twice
abbrev pub Once : List ℕ → Type 0
Once l = (j k : ℕ) → j < length l → k < length l → get_or l j 0 ≡ get_or l k 0 → j ≡ k

abbrev pub Differ : List ℕ → Type 0
Differ [] = Unit {0}
Differ (x ∷ l) = (listed x l ≡ false) × Differ l

pub once-differ : (l : List ℕ) → Once l → Differ l
once-differ [] f = tt
once-differ (x ∷ l) f = (else_false (listed x l) (λ e. again (listed-told x l e)), once-differ l (λ j k h m e. let z : suc j ≡ suc k = f (suc j) (suc k) (omega arith) (omega arith) e in omega arith))
  where
    again : (k : ℕ) × (k < length l) × (get_or l k 0 ≡ x) → ⊥
    again (k, h, e) = let z : suc k ≡ 0 = f (suc k) 0 (omega (arith, h)) (omega arith) e in omega arith

unfoldable without : ℕ → List ℕ → List ℕ
without x [] = []
without x (y ∷ l) = pick (eqb y x) l (y ∷ without x l)

without_length : (x : ℕ) (l : List ℕ) → listed x l ≡ true → length l ≡ suc (length (without x l))
unfolding listed without
without_length x [] e = clash false e refl
without_length x (y ∷ l) e = go (eqb y x) e (without_length x l)
  where
    go : (t : Bool) → (t || listed x l) ≡ true → (listed x l ≡ true → length l ≡ suc (length (without x l))) → suc (length l) ≡ suc (length (pick t l (y ∷ without x l)))
    go true e f = refl
    go false e f = ap suc (f e)

without_listed : (x y : ℕ) (l : List ℕ) → (x ≡ y → ⊥) → listed y l ≡ true → listed y (without x l) ≡ true
unfolding listed without
without_listed x y [] ne e = e
without_listed x y (z ∷ l) ne e = go (eqb z x) refl (or_told (eqb z y) (listed y l) e) (without_listed x y l ne)
  where
    go : (t : Bool) → eqb z x ≡ t → (eqb z y ≡ true) ⊎ (listed y l ≡ true) → (listed y l ≡ true → listed y (without x l) ≡ true) → listed y (pick t l (z ∷ without x l)) ≡ true
    go true h (inl m) f = absurd (ne (sym (eqb-true z x h) ∙ eqb-true z y m))
    go true h (inr m) f = m
    go false h (inl m) f = or_left (eqb z y) (listed y (without x l)) m
    go false h (inr m) f = or_right (eqb z y) (listed y (without x l)) (f m)

pub few : (o p : List ℕ) → Differ o → ((x : ℕ) → listed x o ≡ true → listed x p ≡ true) → length o ≤ length p
unfolding listed
few [] p d f = omega arith
few (x ∷ o) p d f =
    let here : listed x p ≡ true = f x (or_left (eqb x x) (listed x o) (eq-eqb x x refl)) in
    let rest : length o ≤ length (without x p) = few o (without x p) d.1 (λ y e. without_listed x y p (other y e) (f y (or_right (eqb x y) (listed y o) e))) in
    omega (arith, without_length x p here)
  where
    other : (y : ℕ) → listed y o ≡ true → x ≡ y → ⊥
    other y e q = clash (listed x o) (rw (← q) at e) d.0

-- the numbers below n
unfoldable pub upto : ℕ → List ℕ
upto zero = []
upto (suc n) = n ∷ upto n

pub upto_length : (n : ℕ) → length (upto n) ≡ n
unfolding upto
upto_length zero = refl
upto_length (suc n) = ap suc (upto_length n)

pub upto_told : (n x : ℕ) → listed x (upto n) ≡ true → x < n
unfolding upto listed
upto_told zero x e = clash false e refl
upto_told (suc n) x e = go (or_told (eqb n x) (listed x (upto n)) e) (upto_told n x)
  where
    go : (eqb n x ≡ true) ⊎ (listed x (upto n) ≡ true) → (listed x (upto n) ≡ true → x < n) → x < suc n
    go (inl h) f = omega (arith, eqb-true n x h)
    go (inr h) f = omega (arith, f h)

pub told_upto : (n x : ℕ) → x < n → listed x (upto n) ≡ true
unfolding upto listed
told_upto zero x h = absurd (omega arith)
told_upto (suc n) x h = go (eqb n x) refl (told_upto n x)
  where
    go : (t : Bool) → eqb n x ≡ t → (x < n → listed x (upto n) ≡ true) → (t || listed x (upto n)) ≡ true
    go true e f = refl
    go false e f = f (below (eqb-false n x e))
      where
        below : (n ≡ x → ⊥) → x < n
        below ne = omega arith

pub upto_differ : (n : ℕ) → Differ (upto n)
unfolding upto
upto_differ zero = tt
upto_differ (suc n) = (else_false (listed n (upto n)) (λ e. let z : n < n = upto_told n n e in omega arith), upto_differ n)

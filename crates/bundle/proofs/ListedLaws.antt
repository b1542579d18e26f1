-- A number among numbers.
use Prim.Native.Nat.{ℕ, zero, suc, ◌<◌}
use mathlib.Core.Path.{◌≡◌, refl, sym, ap}
use mathlib.Core.Bool.{Bool, true, false, ◌||◌}
use mathlib.Core.List.{List, [], ◌∷◌, ◌++◌}
use mathlib.Core.Logic.{◌⊎◌, inl, inr}
use native.Mathlib.Omega.{arith}
use lib.Dec.{eqb}
use lib.ListN.{length, get_or}
use borrow.Author.Tests.{eqb-true, eq-eqb, ne_eqb}
use Rattle.spv.proofs.TestLaws.{clash, or_told, or_left, or_right}
use Rattle.bundle.specs.Numbers.{listed}

pub listed-told : (x : ℕ) (l : List ℕ) → listed x l ≡ true → (k : ℕ) × (k < length l) × (get_or l k 0 ≡ x)
unfolding listed
listed-told x [] e = clash false e refl
listed-told x (y ∷ l) e = go (or_told (eqb y x) (listed x l) e) (listed-told x l)
  where
    go : (eqb y x ≡ true) ⊎ (listed x l ≡ true) → (listed x l ≡ true → (k : ℕ) × (k < length l) × (get_or l k 0 ≡ x)) → (k : ℕ) × (k < suc (length l)) × (get_or (y ∷ l) k 0 ≡ x)
    go (inl h) f = (0, omega arith, eqb-true y x h)
    go (inr h) f = let w = f h in (suc w.0, omega (arith, w.1), w.2)

pub told-listed : (x : ℕ) (l : List ℕ) (k : ℕ) → k < length l → get_or l k 0 ≡ x → listed x l ≡ true
unfolding listed
told-listed x [] k h e = absurd (omega arith)
told-listed x (y ∷ l) zero h e = or_left (eqb y x) (listed x l) (eq-eqb y x e)
told-listed x (y ∷ l) (suc k) h e = or_right (eqb y x) (listed x l) (told-listed x l k (omega arith) e)

-- at the end of a list
pub last_told : (x i : ℕ) (l : List ℕ) → listed x (l ++ (i ∷ [])) ≡ true → (listed x l ≡ true) ⊎ (i ≡ x)
unfolding listed
last_told x i [] e = go (or_told (eqb i x) false e)
  where
    go : (eqb i x ≡ true) ⊎ (false ≡ true) → (false ≡ true) ⊎ (i ≡ x)
    go (inl h) = inr (eqb-true i x h)
    go (inr h) = inl h
last_told x i (y ∷ l) e = go (or_told (eqb y x) (listed x (l ++ (i ∷ []))) e) (last_told x i l)
  where
    go : (eqb y x ≡ true) ⊎ (listed x (l ++ (i ∷ [])) ≡ true) → (listed x (l ++ (i ∷ [])) ≡ true → (listed x l ≡ true) ⊎ (i ≡ x)) → ((eqb y x || listed x l) ≡ true) ⊎ (i ≡ x)
    go (inl h) f = inl (or_left (eqb y x) (listed x l) h)
    go (inr h) f = on (f h)
      where
        on : (listed x l ≡ true) ⊎ (i ≡ x) → ((eqb y x || listed x l) ≡ true) ⊎ (i ≡ x)
        on (inl m) = inl (or_right (eqb y x) (listed x l) m)
        on (inr m) = inr m

pub last_listed : (x i : ℕ) (l : List ℕ) → i ≡ x → listed x (l ++ (i ∷ [])) ≡ true
unfolding listed
last_listed x i [] e = or_left (eqb i x) false (eq-eqb i x e)
last_listed x i (y ∷ l) e = or_right (eqb y x) (listed x (l ++ (i ∷ []))) (last_listed x i l e)

pub other-listed : (x i : ℕ) (l : List ℕ) → (x ≡ i → ⊥) → listed x (l ++ (i ∷ [])) ≡ listed x l
unfolding listed
other-listed x i [] ne = rw (ne_eqb i x (λ e. ne (sym e)))
other-listed x i (y ∷ l) ne = ap (λ (t : Bool). eqb y x || t) (other-listed x i l ne)

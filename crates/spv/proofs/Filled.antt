-- A lent slice that a loop fills from the front: after i turns it is the first i rows of `rows f`, and then what was there.
--     up_to f ys i      that list.         up_to_none, up_to_more, up_to_all       at 0, a store of f i at i, and at the length of ys
--     up_to_length      it is as long as ys
-- Assumes nothing.
use mathlib.Core.Path.{◌≡◌, refl, sym, ap, subst, ◌∙◌}
use mathlib.Core.List.{List, [], ◌∷◌, ◌++◌, append-nil}
use Prim.Native.Nat.{ℕ, zero, suc, ◌+◌, ◌<◌, ◌≤◌}
use native.Mathlib.Nat.{not-suc-le-zero, le_of_suc-le-suc}
use native.Mathlib.Numerals.{add-one}
use native.Mathlib.Omega.{arith}
use lib.ListN.{length, set, drop, length-append, length-drop, drop_of_length-le}
use Rattle.spv.specs.Rows.{rows}
use Rattle.spv.proofs.RowsLaws.{rows-length}

abbrev pub up_to : {A : Type 0} → (ℕ → A) → List A → ℕ → List A
up_to f ys i = rows f i ++ drop i ys

pub up_to_length : {A : Type 0} (f : ℕ → A) (ys : List A) (i : ℕ) → i ≤ length ys → length (up_to f ys i) ≡ length ys
up_to_length f ys i l = omega (arith, length-append (rows f i) (drop i ys), rows-length f i, length-drop i ys)

pub up_to_none : {A : Type 0} (f : ℕ → A) (ys : List A) → ys ≡ up_to f ys 0
unfolding rows
up_to_none f ys = refl

pub up_to_all : {A : Type 0} (f : ℕ → A) (ys : List A) (i : ℕ) → length ys ≡ i → up_to f ys i ≡ rows f (length ys)
up_to_all f ys i e = subst (λ (k : ℕ). up_to f ys k ≡ rows f (length ys)) e (ap (rows f (length ys) ++◌) (drop_of_length-le ys {i = length ys} (omega arith)) ∙ append-nil (rows f (length ys)))

-- a store right after xs
set_after : {A : Type 0} (xs ys : List A) (i : ℕ) (v : A) → i < length ys → set (xs ++ drop i ys) (length xs) v ≡ (xs ++ (v ∷ [])) ++ drop (suc i) ys
set_after [] [] i v l = absurd (not-suc-le-zero l)
set_after [] (y ∷ ys) zero v l = refl
set_after [] (y ∷ ys) (suc i) v l = set_after [] ys i v (le_of_suc-le-suc l)
set_after (x ∷ xs) ys i v l = ap (x ∷◌) (set_after xs ys i v l)

pub up_to_more : {A : Type 0} (f : ℕ → A) (ys : List A) (i : ℕ) (r : A) → i < length ys → r ≡ f i → set (up_to f ys i) i r ≡ up_to f ys (i + 1)
unfolding rows
up_to_more {A} f ys i r l e =
    ap (λ (k : ℕ). set (up_to f ys i) k r) (sym (rows-length f i)) ∙ set_after (rows f i) ys i r l ∙ ap (λ (v : A). (rows f i ++ (v ∷ [])) ++ drop (suc i) ys) e ∙ ap (up_to f ys) (sym (add-one i))

-- Laws of rows, and of lists by their places.
use mathlib.Core.Path.{◌≡◌, refl, sym, ap, ◌∙◌}
use mathlib.Core.List.{List, [], ◌∷◌, ◌++◌, map}
use Prim.Native.Nat.{ℕ, zero, suc, ◌+◌, ◌-◌, ◌<◌, ◌≤◌}
use native.Mathlib.Nat.{not-suc-le-zero}
use native.Mathlib.Numerals.{add-one}
use native.Mathlib.Omega.{arith}
use mathlib.Core.Bool.{Bool, true, false}
use lib.Dec.{ltb}
use lib.ListN.{length, get_or, replicate, length-append, get_or-append}
use lib.Seq.{ext_get_or, get_or_at}
use borrow.Author.Tests.{ltb-true, ltb-false}
use Rattle.format.specs.Padded.{padded}
use Rattle.format.proofs.Gather.{padded-length}
use Rattle.spv.specs.Rows.{rows}

pub rows-length : {A : Type 0} (f : ℕ → A) (n : ℕ) → length (rows f n) ≡ n
unfolding rows
rows-length f zero = refl
rows-length f (suc n) = length-append (rows f n) (f n ∷ []) ∙ ap (λ (k : ℕ). k + 1) (rows-length f n) ∙ add-one n

pub rows_at : {A : Type 0} (f : ℕ → A) (n i : ℕ) (d : A) → i < n → get_or (rows f n) i d ≡ f i
unfolding rows
rows_at f zero i d h = absurd (not-suc-le-zero h)
rows_at f (suc n) i d h = go (ltb i n) refl (rows_at f n i d)
  where
    go : (b : Bool) → ltb i n ≡ b → (i < n → get_or (rows f n) i d ≡ f i) → get_or (rows f n ++ (f n ∷ [])) i d ≡ f i
    go true e below = get_or-append (rows f n) (f n ∷ []) d i (rw rows-length (ltb-true i n e)) ∙ below (ltb-true i n e)
    go false e below =
        let last : n ≡ i = omega (arith, ltb-false i n e) in
        get_or_at (rows f n) (f n) [] d i (rows-length f n ∙ last) ∙ ap f last

pub rows_same : {A : Type 0} (f g : ℕ → A) (n : ℕ) → ((i : ℕ) → f i ≡ g i) → rows f n ≡ rows g n
unfolding rows
rows_same f g zero e = refl
rows_same f g (suc n) e = ap (λ l. l ++ (f n ∷ [])) (rows_same f g n e) ∙ ap (λ x. rows g n ++ (x ∷ [])) (e n)

get_d_replicate-same : {A : Type 0} (n i : ℕ) (d : A) → get_or (replicate n d) i d ≡ d
get_d_replicate-same zero i d = refl
get_d_replicate-same (suc n) zero d = refl
get_d_replicate-same (suc n) (suc i) d = get_d_replicate-same n i d

pub get_d_padded : {A : Type 0} (l : List A) (n i : ℕ) (d : A) → get_or (l ++ replicate n d) i d ≡ get_or l i d
get_d_padded [] n i d = get_d_replicate-same n i d
get_d_padded (x ∷ l) n zero d = refl
get_d_padded (x ∷ l) n (suc i) d = get_d_padded l n i d

-- rows that are a list's, and past it d
pub rows-list : {A : Type 0} (f : ℕ → A) (d : A) (l : List A) (n : ℕ) → ((i : ℕ) → f i ≡ get_or l i d) → length l ≤ n → rows f n ≡ padded n d l
unfolding padded
rows-list f d l n e h =
    ext_get_or d (rows f n) (padded n d l) (rows-length f n ∙ sym (padded-length n d l h))
    (λ i b. rows_at f n i d (rw (rows-length f n) at b) ∙ e i ∙ sym (get_d_padded l (n - length l) i d))

pub map_at : {A B : Type 0} (f : A → B) (l : List A) (j : ℕ) (d : A) (z : B) → j < length l → get_or (map f l) j z ≡ f (get_or l j d)
map_at f [] j d z h = absurd (omega arith)
map_at f (x ∷ l) zero d z h = refl
map_at f (x ∷ l) (suc j) d z h = map_at f l j d z (omega arith)

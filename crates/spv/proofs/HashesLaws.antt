-- Laws of hashes that stand end to end.
use Prim.Native.Nat.{ℕ, zero, suc, ◌+◌, ◌-◌, ◌*◌, ◌/◌, ◌<◌, ◌≤◌}
use mathlib.Core.Path.{◌≡◌, refl, sym, ap, ◌∙◌}
use mathlib.Core.Bool.{true, false}
use mathlib.Core.List.{List, [], ◌∷◌, ◌++◌}
use mathlib.Core.Logic.{◌⊎◌, inl, inr}
use native.Mathlib.Omega.{arith}
use lib.ListN.{length, take, drop, get_or, length-append, length-take, length-drop}
use lib.Seq.{ext_get_or, get_or-take, get_or-drop, drop-drop, take-append-le, drop-append-le, take_all, length-take-le}
use Rattle.format.proofs.Basics.{one_less}
use Rattle.format.specs.Bytes.{same}
use Rattle.format.proofs.BytesLaws.{same_eq, eq_same, ne_same}
use Rattle.spv.specs.Hashes.{hashes, hashes_of, among, Among, searching}
use Rattle.spv.proofs.TestLaws.{clash, or_told, or_left, or_right}

pub hashes-length : (n : ℕ) (l : List ℕ) → length (hashes n l) ≡ n
unfolding hashes
hashes-length zero l = refl
hashes-length (suc n) l = ap suc (hashes-length n (drop 32 l))

pub hashes-at : (n : ℕ) (l : List ℕ) (j : ℕ) → j < n → get_or (hashes n l) j [] ≡ take 32 (drop (32 * j) l)
unfolding hashes
hashes-at zero l j b = absurd (omega arith)
hashes-at (suc n) l zero b = refl
hashes-at (suc n) l (suc j) b =
    let e : 32 + 32 * j ≡ 32 * suc j = omega arith in
    hashes-at n (drop 32 l) j (omega arith) ∙ ap (take 32) (drop-drop (32 * j) 32 l ∙ ap (λ (k : ℕ). drop k l) e)

-- 32 bytes from a place, byte by byte
module _ (l x : List ℕ) (at : ℕ) where
  part_at : (i : ℕ) → i < 32 → get_or (take 32 (drop at l)) i 0 ≡ get_or l (at + i) 0
  part_at i h = get_or-take 32 (drop at l) i 0 h ∙ get_or-drop at l i 0

  pub part_same : at + 32 ≤ length l → length x ≡ 32 → ((i : ℕ) → i < 32 → get_or l (at + i) 0 ≡ get_or x i 0) → same (take 32 (drop at l)) x ≡ true
  part_same inside whole each =
      let long : length (take 32 (drop at l)) ≡ 32 = simp (length-take, length-drop) (omega arith) in
      eq_same (take 32 (drop at l)) x
      (ext_get_or 0 (take 32 (drop at l)) x (long ∙ sym whole) (λ i h. let low : i < 32 = omega arith in part_at i low ∙ each i low))

  pub part_differs : (i : ℕ) → i < 32 → (get_or l (at + i) 0 ≡ get_or x i 0 → ⊥) → same (take 32 (drop at l)) x ≡ false
  part_differs i h differ = ne_same (take 32 (drop at l)) x (λ e. differ (sym (part_at i h) ∙ ap (λ (m : List ℕ). get_or m i 0) e))

module _ (x l : List ℕ) where
  module _ (i : ℕ) where
    pub search-here : i < length l / 32 → same (take 32 (drop (32 * i) l)) x ≡ true → searching x l i ≡ true
    unfolding searching among hashes
    search-here h e = rw (one_less (length l / 32) i h) (rw e)

    pub search_on : i < length l / 32 → same (take 32 (drop (32 * i) l)) x ≡ false → searching x l i ≡ searching x l (i + 1)
    unfolding searching among hashes
    search_on h e =
        let next : 32 * (i + 1) ≡ 32 * i + 32 = omega arith in
        rw (one_less (length l / 32) i h, next) (rw (e, drop-drop 32 (32 * i) l))

    pub search-end : length l / 32 ≤ i → searching x l i ≡ false
    unfolding searching among hashes
    search-end h = let none : length l / 32 - i ≡ 0 = omega arith in rw none

hashes_cons : (n : ℕ) (l : List ℕ) → hashes (suc n) l ≡ take 32 l ∷ hashes n (drop 32 l)
unfolding hashes
hashes_cons n l = refl

hashes-none : (l : List ℕ) → hashes 0 l ≡ []
unfolding hashes
hashes-none l = refl

hashes_snoc : (n : ℕ) (l x : List ℕ) → length l ≡ 32 * n → length x ≡ 32 → hashes (suc n) (l ++ x) ≡ hashes n l ++ (x ∷ [])
hashes_snoc zero [] x e h = hashes_cons 0 x ∙ ap (λ (m : List ℕ). m ∷ hashes 0 (drop 32 x)) (take_all 32 x (omega arith)) ∙ ap (x ∷◌) (hashes-none (drop 32 x)) ∙ ap (λ (m : List (List ℕ)). m ++ (x ∷ [])) (sym (hashes-none []))
hashes_snoc zero (y ∷ l) x e h = absurd (omega arith)
hashes_snoc (suc n) l x e h =
    let inside : 32 ≤ length l = omega arith in
    hashes_cons (suc n) (l ++ x)
    ∙ ap (λ (m : List ℕ). m ∷ hashes (suc n) (drop 32 (l ++ x))) (take-append-le 32 l x inside)
    ∙ ap (λ (m : List ℕ). take 32 l ∷ hashes (suc n) m) (drop-append-le 32 l x inside)
    ∙ ap (take 32 l ∷◌) (hashes_snoc n (drop 32 l) x (length-drop 32 l ∙ omega arith) h)
    ∙ ap (λ (m : List (List ℕ)). m ++ (x ∷ [])) (sym (hashes_cons n l))

-- one more hash at the end
pub hashes-more : (n : ℕ) (l x : List ℕ) → length l ≡ 32 * n → length x ≡ 32 → hashes_of (l ++ x) ≡ hashes_of l ++ (x ∷ [])
unfolding hashes_of
hashes-more n l x e h =
    ap (λ (m : ℕ). hashes m (l ++ x)) (counted (suc n) (length (l ++ x)) (length-append l x ∙ omega arith))
    ∙ hashes_snoc n l x e h
    ∙ ap (λ (m : ℕ). hashes m l ++ (x ∷ [])) (sym (counted n (length l) e))
  where
    counted : (n m : ℕ) → m ≡ 32 * n → m / 32 ≡ n
    counted n m e = omega arith

pub taken-length : (n : ℕ) (l : List ℕ) → 32 * n ≤ length l → length (hashes_of (take (32 * n) l)) ≡ n
unfolding hashes_of
taken-length n l h =
    let whole = length-take-le (32 * n) l h in
    hashes-length (length (take (32 * n) l) / 32) (take (32 * n) l) ∙ omega arith

pub hashes_empty : hashes_of [] ≡ []
unfolding hashes_of hashes
hashes_empty = refl

-- ---- one of them

pub among-told : (x : List ℕ) (l : List (List ℕ)) → among x l ≡ true → Among x l
unfolding among
among-told x [] e = clash false e refl
among-told x (y ∷ l) e = go (or_told (same y x) (among x l) e) (among-told x l)
  where
    go : (same y x ≡ true) ⊎ (among x l ≡ true) → (among x l ≡ true → Among x l) → Among x (y ∷ l)
    go (inl h) f = (0, omega arith, same_eq y x h)
    go (inr h) f = let w = f h in (suc w.0, omega (arith, w.1), w.2)

pub told-among : (x : List ℕ) (l : List (List ℕ)) → Among x l → among x l ≡ true
unfolding among
told-among x [] (k, h, e) = absurd (omega (arith, h))
told-among x (y ∷ l) (zero, h, e) = or_left (same y x) (among x l) (eq_same y x e)
told-among x (y ∷ l) (suc k, h, e) = or_right (same y x) (among x l) (told-among x l (k, omega (arith, h), e))

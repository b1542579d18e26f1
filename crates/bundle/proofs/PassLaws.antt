-- Laws of the pass over all windows: the first transaction that spends an output again.
use Prim.Native.Nat.{ℕ, zero, suc, ◌+◌, ◌<◌, ◌≤◌}
use mathlib.Core.Path.{◌≡◌, refl, sym, ap, ◌∙◌, subst}
use mathlib.Core.Bool.{Bool, true, false, not, ◌&&◌}
use mathlib.Core.List.{List, [], ◌∷◌, ◌++◌, append_assoc, append-nil}
use mathlib.Core.Logic.{◌⊎◌, inl, inr}
use native.Mathlib.Omega.{arith}
use lib.Dec.{ltb, leb, eqb}
use lib.ListN.{length, get_or, take, replicate, length-append}
use borrow.Author.Tests.{ltb-true, ltb-false, leb-true, leb-false, le-leb, lt-ltb, eq-eqb}
use Rattle.format.specs.Parse.{pick}
use Rattle.spv.proofs.TestLaws.{clash, and_left, and_right, and_both, or_right, else_false}
use Rattle.bundle.specs.Numbers.{listed, fresh_numbers}
use Rattle.bundle.specs.Windows.{numbers_in, inside, spender_from, fresh_in, mark_all, twice, lesser_if, marks_in, first_in}
use Rattle.bundle.proofs.WindowLaws.{Marks, marks_all, twice-is, fresh_in_lem, inside-told, told-inside}
use Rattle.bundle.specs.Pass.{Blank}

abbrev pub zeros : ℕ → List ℕ
zeros n = replicate n 0

len : (n : ℕ) → length (zeros n) ≡ n
len zero = refl
len (suc n) = ap suc (len n)

zero-at : (n j : ℕ) → get_or (zeros n) j 0 ≡ 0
zero-at zero j = refl
zero-at (suc n) zero = refl
zero-at (suc n) (suc j) = zero-at n j

pub zeros-blank : (n : ℕ) → Blank n (zeros n)
zeros-blank n = (len n, zero-at n)

inside-parts : (base size x : ℕ) → inside 0 (base + size) x ≡ true → (inside 0 base x ≡ true) ⊎ (inside base size x ≡ true)
unfolding inside
inside-parts base size x e = go (ltb x base) refl
  where
    go : (t : Bool) → ltb x base ≡ t → ((leb 0 x && ltb x (0 + base)) ≡ true) ⊎ ((leb base x && ltb x (base + size)) ≡ true)
    go true h = inl (and_both (leb 0 x) (ltb x (0 + base)) (le-leb 0 x (omega arith)) (lt-ltb x (0 + base) (let l = ltb-true x base h in omega arith)))
    go false h = inr (and_both (leb base x) (ltb x (base + size)) (le-leb base x (ltb-false x base h)) (lt-ltb x (base + size) (let l = ltb-true x (0 + (base + size)) (and_right (leb 0 x) (ltb x (0 + (base + size))) e) in omega arith)))

lesser-none : (t : Bool) (k first : ℕ) → t ≡ false → lesser_if t k first ≡ first
unfolding lesser_if
lesser-none t k first e = rw e

lesser-some : (t : Bool) (k first : ℕ) → t ≡ true → (lesser_if t k first ≤ k) × (lesser_if t k first ≤ first) × (lesser_if t k first < first → lesser_if t k first ≡ k)
unfolding lesser_if
lesser-some t k first e = rw e (go (leb first k) refl)
  where
    go : (b : Bool) → leb first k ≡ b → (pick b first k ≤ k) × (pick b first k ≤ first) × (pick b first k < first → pick b first k ≡ k)
    go true h = (leb-true first k h, omega arith, λ g. absurd (omega arith))
    go false h = let l = leb-false first k h in (omega arith, omega arith, λ g. refl)

-- ---- the marks after all transactions

pub spender_empty : (k : ℕ) (ls : List (List ℕ)) (x : ℕ) → spender_from k (ls ++ ([] ∷ [])) x ≡ spender_from k ls x
unfolding spender_from listed
spender_empty k [] x = refl
spender_empty k (ns ∷ ls) x = ap (pick (listed x ns) k) (spender_empty (suc k) ls x)

module _ (base size : ℕ) where
  next_marks : (ls : List (List ℕ)) (ns marks : List ℕ) → Marks base size ls ns marks → Marks base size (ls ++ (ns ∷ [])) [] marks
  next_marks ls ns marks m = record { size_is = m.size_is; says = λ j h. m.says j h ∙ sym (spender_empty 1 (ls ++ (ns ∷ [])) (base + j)) }

  pub marks_start : (marks : List ℕ) → Blank size marks → Marks base size [] [] marks
  unfolding spender_from listed
  marks_start marks b = record { size_is = b.0; says = λ j h. b.1 j }

  step-length : (ls : List (List ℕ)) (ns : List ℕ) → 1 + length (ls ++ (ns ∷ [])) ≡ suc (1 + length ls)
  step-length ls ns = omega (arith, length-append ls (ns ∷ []))

  marks_next : (ls : List (List ℕ)) (ns marks : List ℕ) → Marks base size ls [] marks → Marks base size (ls ++ (ns ∷ [])) [] (mark_all base size (1 + length ls) marks ns)
  marks_next ls ns marks m = next_marks ls ns (mark_all base size (1 + length ls) marks ns) (marks_all base size ls [] marks ns m)

  pub marks_in_lem : (ls rest : List (List ℕ)) (marks : List ℕ) → Marks base size ls [] marks → Marks base size (ls ++ rest) [] (marks_in base size (1 + length ls) marks rest)
  unfolding marks_in
  marks_in_lem ls [] marks m = rw (append-nil ls) m
  marks_in_lem ls (ns ∷ rest) marks m =
      subst (λ (l : List (List ℕ)). Marks base size l [] (marks_in base size (suc (1 + length ls)) (mark_all base size (1 + length ls) marks ns) rest)) (append_assoc ls (ns ∷ []) rest)
      (subst (λ (k : ℕ). Marks base size ((ls ++ (ns ∷ [])) ++ rest) [] (marks_in base size k (mark_all base size (1 + length ls) marks ns) rest)) (step-length ls ns)
      (marks_in_lem (ls ++ (ns ∷ [])) rest (mark_all base size (1 + length ls) marks ns) (marks_next ls ns marks m)))

  -- ---- the first transaction with a number again in the window

  abbrev ok : List (List ℕ) → List (List ℕ) → ℕ → Bool
  ok ls rest j = fresh_in base size (numbers_in (ls ++ take j rest)) (get_or rest j [])

  pub record First (ls rest : List (List ℕ)) (first r : ℕ) : Type 0 where
    pub le : r ≤ first
    pub clean : (j : ℕ) → j < length rest → 1 + length ls + j < r → ok ls rest j ≡ true
    pub found : r < first → (j : ℕ) × (j < length rest) × (r ≡ 1 + length ls + j) × (ok ls rest j ≡ false)

  pub first-told : (ls rest : List (List ℕ)) (marks : List ℕ) (first : ℕ) → Marks base size ls [] marks → First ls rest first (first_in base size (1 + length ls) marks first rest)
  unfolding first_in
  first-told ls [] marks first m = record { le = omega arith; clean = λ j h g. absurd (omega arith); found = λ h. absurd (omega arith) }
  first-told ls (ns ∷ rest) marks first m =
      built (lesser_if (twice base size (1 + length ls) marks ns) (1 + length ls) first)
      (λ is. lesser-none (twice base size (1 + length ls) marks ns) (1 + length ls) first (twice-is base size ls [] marks ns m ∙ ap not is))
      (λ is. lesser-some (twice base size (1 + length ls) marks ns) (1 + length ls) first (twice-is base size ls [] marks ns m ∙ ap not is))
      (subst (λ (k : ℕ). First (ls ++ (ns ∷ [])) rest (lesser_if (twice base size (1 + length ls) marks ns) (1 + length ls) first) (first_in base size k (mark_all base size (1 + length ls) marks ns) (lesser_if (twice base size (1 + length ls) marks ns) (1 + length ls) first) rest))
      (step-length ls ns) (first-told (ls ++ (ns ∷ [])) rest (mark_all base size (1 + length ls) marks ns) (lesser_if (twice base size (1 + length ls) marks ns) (1 + length ls) first) (marks_next ls ns marks m)))
    where
      -- the head's own numbers
      own : fresh_in base size (numbers_in ls ++ []) ns ≡ ok ls (ns ∷ rest) 0
      own = ap (λ (l : List ℕ). fresh_in base size l ns) (append-nil (numbers_in ls) ∙ ap numbers_in (sym (append-nil ls)))

      shift : (j : ℕ) → ok (ls ++ (ns ∷ [])) rest j ≡ ok ls (ns ∷ rest) (suc j)
      shift j = ap (λ (l : List (List ℕ)). fresh_in base size (numbers_in l) (get_or rest j [])) (append_assoc ls (ns ∷ []) (take j rest))

      built : (f : ℕ) → (fresh_in base size (numbers_in ls ++ []) ns ≡ true → f ≡ first) → (fresh_in base size (numbers_in ls ++ []) ns ≡ false → (f ≤ 1 + length ls) × (f ≤ first) × (f < first → f ≡ 1 + length ls))
          → {r : ℕ} → First (ls ++ (ns ∷ [])) rest f r → First ls (ns ∷ rest) first r
      built f fine twice {r} w = by (fresh_in base size (numbers_in ls ++ []) ns) refl
        where
          later : r < f → (j : ℕ) × (j < suc (length rest)) × (r ≡ 1 + length ls + j) × (ok ls (ns ∷ rest) j ≡ false)
          later h = let x = w.found h in (suc x.0, omega (arith, x.1), omega (arith, x.2, step-length ls ns), sym (shift x.0) ∙ x.3)

          clean : ok ls (ns ∷ rest) 0 ≡ true ⊎ (f ≤ 1 + length ls) → (j : ℕ) → j < suc (length rest) → 1 + length ls + j < r → ok ls (ns ∷ rest) j ≡ true
          clean (inl y) zero h g = y
          clean (inr y) zero h g = absurd (omega (arith, y, w.le))
          clean e (suc j) h g = sym (shift j) ∙ w.clean j (omega arith) (omega (arith, g, step-length ls ns))

          by : (b : Bool) → fresh_in base size (numbers_in ls ++ []) ns ≡ b → First ls (ns ∷ rest) first r
          by true is =
              let same = fine is in
              record { le = omega (arith, w.le, same); clean = clean (inl (sym own ∙ is)); found = λ h. later (omega (arith, h, same)) }
          by false is =
              let x = twice is in
              record { le = omega (arith, w.le, x.1); clean = clean (inr x.0); found = λ h. at x.2 h (ltb r f) refl }
            where
              at : (f < first → f ≡ 1 + length ls) → r < first → (b : Bool) → ltb r f ≡ b → (j : ℕ) × (j < suc (length rest)) × (r ≡ 1 + length ls + j) × (ok ls (ns ∷ rest) j ≡ false)
              at x h true q = later (ltb-true r f q)
              at x h false q =
                  let same : r ≡ f = omega (arith, w.le, ltb-false r f q) in
                  (0, omega arith, same ∙ x (omega arith) ∙ omega arith, sym own ∙ is)

-- ---- windows side by side

-- fresh below base and in the window from there on is fresh below its end
pub fresh-below : (base size : ℕ) (before l : List ℕ) → fresh_in 0 base before l ≡ true → fresh_in base size before l ≡ true → fresh_in 0 (base + size) before l ≡ true
unfolding fresh_in
fresh-below base size before [] e f = refl
fresh-below base size before (x ∷ l) e f =
    and_both (not (inside 0 (base + size) x && listed x before)) (fresh_in 0 (base + size) (before ++ (x ∷ [])) l)
    (go (listed x before) (and_left (not (inside 0 base x && listed x before)) (fresh_in 0 base (before ++ (x ∷ [])) l) e) (and_left (not (inside base size x && listed x before)) (fresh_in base size (before ++ (x ∷ [])) l) f))
    (fresh-below base size (before ++ (x ∷ [])) l (and_right (not (inside 0 base x && listed x before)) (fresh_in 0 base (before ++ (x ∷ [])) l) e) (and_right (not (inside base size x && listed x before)) (fresh_in base size (before ++ (x ∷ [])) l) f))
  where
    out : (a b c : Bool) → (c ≡ true → (a ≡ true) ⊎ (b ≡ true)) → not (a && true) ≡ true → not (b && true) ≡ true → not (c && true) ≡ true
    out a b false h p q = refl
    out a b true h p q = by (h refl)
      where
        by : (a ≡ true) ⊎ (b ≡ true) → not (true && true) ≡ true
        by (inl z) = absurd (let y : not (true && true) ≡ true = rw z at p in let w : ◌≡◌ {A = ℕ} 0 1 = cc in omega arith)
        by (inr z) = absurd (let y : not (true && true) ≡ true = rw z at q in let w : ◌≡◌ {A = ℕ} 0 1 = cc in omega arith)

    none : (c : Bool) → not (c && false) ≡ true
    none true = refl
    none false = refl

    go : (t : Bool) → not (inside 0 base x && t) ≡ true → not (inside base size x && t) ≡ true → not (inside 0 (base + size) x && t) ≡ true
    go true p q = out (inside 0 base x) (inside base size x) (inside 0 (base + size) x) (inside-parts base size x) p q
    go false p q = none (inside 0 (base + size) x)

-- fresh in a window is fresh in its first part
pub fresh_less : (base size less : ℕ) (before l : List ℕ) → less ≤ size → fresh_in base size before l ≡ true → fresh_in base less before l ≡ true
unfolding fresh_in
fresh_less base size less before [] h e = refl
fresh_less base size less before (x ∷ l) h e =
    and_both (not (inside base less x && listed x before)) (fresh_in base less (before ++ (x ∷ [])) l)
    (go (listed x before) (inside base less x) refl (and_left (not (inside base size x && listed x before)) (fresh_in base size (before ++ (x ∷ [])) l) e))
    (fresh_less base size less (before ++ (x ∷ [])) l h (and_right (not (inside base size x && listed x before)) (fresh_in base size (before ++ (x ∷ [])) l) e))
  where
    go : (t b : Bool) → inside base less x ≡ b → not (inside base size x && t) ≡ true → not (b && t) ≡ true
    go t false i q = refl
    go t true i q = let w = inside-told base less x i in rw (told-inside base size x w.0 (omega (arith, w.1, h))) at q

-- with no window all is fresh
pub fresh-none : (before l : List ℕ) → fresh_in 0 0 before l ≡ true
unfolding fresh_in
fresh-none before [] = refl
fresh-none before (x ∷ l) = and_both (not (inside 0 0 x && listed x before)) (fresh_in 0 0 (before ++ (x ∷ [])) l) (go (inside 0 0 x) refl) (fresh-none (before ++ (x ∷ [])) l)
  where
    go : (b : Bool) → inside 0 0 x ≡ b → not (b && listed x before) ≡ true
    go true i = absurd (let w = inside-told 0 0 x i in omega (arith, w.1))
    go false i = refl

-- fresh below n, where all numbers are below n
pub below-fresh : (n : ℕ) (before l : List ℕ) → ((x : ℕ) → listed x l ≡ true → x < n) → fresh_in 0 n before l ≡ true → fresh_numbers before l ≡ true
unfolding fresh_in fresh_numbers listed
below-fresh n before [] low e = refl
below-fresh n before (x ∷ l) low e =
    let first = and_left (not (inside 0 n x && listed x before)) (fresh_in 0 n (before ++ (x ∷ [])) l) e in
    let h = low x (rw (eq-eqb x x refl)) in
    and_both (not (listed x before)) (fresh_numbers (before ++ (x ∷ [])) l) (rw (told-inside 0 n x (omega arith) (omega arith)) at first)
    (below-fresh n (before ++ (x ∷ [])) l (λ y g. low y (or_right (eqb x y) (listed y l) g)) (and_right (not (inside 0 n x && listed x before)) (fresh_in 0 n (before ++ (x ∷ [])) l) e))

pub not-fresh : (base size : ℕ) (before l : List ℕ) → fresh_in base size before l ≡ false → fresh_numbers before l ≡ false
not-fresh base size before l e = else_false (fresh_numbers before l) (λ f. clash (fresh_in base size before l) (fresh_in_lem base size before l f) e)

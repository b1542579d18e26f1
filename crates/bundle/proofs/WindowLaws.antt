-- Laws of windows: what their marks say, and what is summed by them.
use Prim.Native.Nat.{ℕ, zero, suc, ◌+◌, ◌-◌, ◌*◌, ◌<◌, ◌≤◌}
use mathlib.Core.Path.{◌≡◌, refl, sym, ap, ap₂, ◌∙◌}
use mathlib.Core.Bool.{Bool, true, false, not, ◌&&◌, ◌||◌}
use mathlib.Core.List.{List, [], ◌∷◌, ◌++◌, append_assoc, append-nil}
use mathlib.Core.Logic.{◌⊎◌, inl, inr}
use native.Mathlib.Omega.{arith}
use lib.Dec.{ltb, leb, eqb}
use lib.ListN.{length, get_or, set, length-set}
use lib.Seq.{get_or-set_same, get_or-set_other}
use borrow.Author.Tests.{ltb-true, lt-ltb, le-leb, leb-true, eqb-true, eqb-false, eq-eqb, ne_eqb, not-true}
use Rattle.format.specs.Parse.{pick}
use Rattle.spv.proofs.TestLaws.{clash, and_left, and_right, and_both, or_told, or_left, or_right, else_false}
use Rattle.bundle.proofs.ListedLaws.{last_listed, other-listed}
use Rattle.bundle.specs.Windows.{numbers_in, inside, spender_from, fresh_in, mark_one, marked, mark_all, twice, sum_to, sum_at}
use Rattle.bundle.specs.Numbers.{listed, fresh_numbers}

pub listed_append : (x : ℕ) (a b : List ℕ) → listed x (a ++ b) ≡ (listed x a || listed x b)
unfolding listed
listed_append x [] b = refl
listed_append x (y ∷ a) b = go (eqb y x) (listed_append x a b)
  where
    go : (t : Bool) → listed x (a ++ b) ≡ (listed x a || listed x b) → (t || listed x (a ++ b)) ≡ ((t || listed x a) || listed x b)
    go true e = refl
    go false e = e

-- ---- who spends

spender_some : (k : ℕ) (ls : List (List ℕ)) (x : ℕ) → listed x (numbers_in ls) ≡ true → k ≤ spender_from k ls x
unfolding spender_from numbers_in listed
spender_some k [] x e = clash false e refl
spender_some k (ns ∷ ls) x e = go (listed x ns) refl (spender_some (suc k) ls x)
  where
    go : (t : Bool) → listed x ns ≡ t → (listed x (numbers_in ls) ≡ true → suc k ≤ spender_from (suc k) ls x) → k ≤ pick t k (spender_from (suc k) ls x)
    go true h f = omega arith
    go false h f = let l : listed x (numbers_in ls) ≡ true = rw h at (sym (listed_append x ns (numbers_in ls)) ∙ e) in omega (arith, f l)

pub spender_none : (k : ℕ) (ls : List (List ℕ)) (x : ℕ) → listed x (numbers_in ls) ≡ false → spender_from k ls x ≡ 0
unfolding spender_from numbers_in
spender_none k [] x e = refl
spender_none k (ns ∷ ls) x e = go (listed x ns) refl (spender_none (suc k) ls x)
  where
    go : (t : Bool) → listed x ns ≡ t → (listed x (numbers_in ls) ≡ false → spender_from (suc k) ls x ≡ 0) → pick t k (spender_from (suc k) ls x) ≡ 0
    go true h f = clash (listed x (ns ++ numbers_in ls)) (listed_append x ns (numbers_in ls) ∙ or_left (listed x ns) (listed x (numbers_in ls)) h) e
    go false h f = f (rw h at (sym (listed_append x ns (numbers_in ls)) ∙ e))

pub spender_last : (k : ℕ) (ls : List (List ℕ)) (ns : List ℕ) (x : ℕ)
    → spender_from k (ls ++ (ns ∷ [])) x ≡ pick (listed x (numbers_in ls)) (spender_from k ls x) (pick (listed x ns) (k + length ls) 0)
unfolding spender_from numbers_in listed
spender_last k [] ns x = let e : k ≡ k + 0 = omega arith in ap (λ (n : ℕ). pick (listed x ns) n 0) e
spender_last k (m ∷ ls) ns x = rw (listed_append x m (numbers_in ls)) (go (listed x m) (spender_last (suc k) ls ns x))
  where
    go : (t : Bool) → spender_from (suc k) (ls ++ (ns ∷ [])) x ≡ pick (listed x (numbers_in ls)) (spender_from (suc k) ls x) (pick (listed x ns) (suc k + length ls) 0)
        → pick t k (spender_from (suc k) (ls ++ (ns ∷ [])) x) ≡ pick (t || listed x (numbers_in ls)) (pick t k (spender_from (suc k) ls x)) (pick (listed x ns) (k + suc (length ls)) 0)
    go true e = refl
    go false e = let n : suc k + length ls ≡ k + suc (length ls) = omega arith in e ∙ ap (λ (j : ℕ). pick (listed x (numbers_in ls)) (spender_from (suc k) ls x) (pick (listed x ns) j 0)) n

-- ---- what the marks of a window say

-- after the transactions 1 to n, whose numbers are ls, and the numbers pre of the next
pub record Marks (base size : ℕ) (ls : List (List ℕ)) (pre marks : List ℕ) : Type 0 where
  pub size_is : length marks ≡ size
  pub says : (j : ℕ) → j < size → get_or marks j 0 ≡ spender_from 1 (ls ++ (pre ∷ [])) (base + j)

pub inside-told : (base size x : ℕ) → inside base size x ≡ true → (base ≤ x) × (x < base + size)
unfolding inside
inside-told base size x e = (leb-true base x (and_left (leb base x) (ltb x (base + size)) e), ltb-true x (base + size) (and_right (leb base x) (ltb x (base + size)) e))

pub told-inside : (base size x : ℕ) → base ≤ x → x < base + size → inside base size x ≡ true
unfolding inside
told-inside base size x a b = and_both (leb base x) (ltb x (base + size)) (le-leb base x a) (lt-ltb x (base + size) b)

module _ (base size : ℕ) (ls : List (List ℕ)) where
  -- a mark at a number in the window
  at-number : (pre marks : List ℕ) (x : ℕ) → Marks base size ls pre marks → inside base size x ≡ true
      → get_or marks (x - base) 0 ≡ pick (listed x (numbers_in ls)) (spender_from 1 ls x) (pick (listed x pre) (1 + length ls) 0)
  at-number pre marks x m i =
      let w = inside-told base size x i in
      let e : base + (x - base) ≡ x = omega (arith, w.0) in
      m.says (x - base) (omega (arith, w.0, w.1)) ∙ ap (spender_from 1 (ls ++ (pre ∷ []))) e ∙ spender_last 1 ls pre x

  -- it is marked exactly if it was spent before
  pub marked-is : (pre marks : List ℕ) (x : ℕ) → Marks base size ls pre marks → marked base size marks x ≡ (inside base size x && listed x (numbers_in ls ++ pre))
  unfolding marked
  marked-is pre marks x m = go (inside base size x) refl
    where
      some : (a b : Bool) → listed x (numbers_in ls) ≡ a → listed x pre ≡ b → not (eqb (pick a (spender_from 1 ls x) (pick b (1 + length ls) 0)) 0) ≡ (a || b)
      some true b p q = ap not (ne_eqb (spender_from 1 ls x) 0 (λ z. omega (arith, spender_some 1 ls x p, z)))
      some false true p q = ap not (ne_eqb (1 + length ls) 0 (λ z. omega (arith, z)))
      some false false p q = refl

      go : (t : Bool) → inside base size x ≡ t → (t && not (eqb (get_or marks (x - base) 0) 0)) ≡ (t && listed x (numbers_in ls ++ pre))
      go false i = refl
      go true i = rw (at-number pre marks x m i, listed_append x (numbers_in ls) pre) (some (listed x (numbers_in ls)) (listed x pre) refl refl)

  -- one number more
  pub marks_more : (pre marks : List ℕ) (x : ℕ) → Marks base size ls pre marks → Marks base size ls (pre ++ (x ∷ [])) (mark_one base size (1 + length ls) marks x)
  unfolding mark_one
  marks_more pre marks x m = go (inside base size x) refl (eqb (get_or marks (x - base) 0) 0) refl
    where
      -- another number's spender stays
      other : (j : ℕ) → (base + j ≡ x → ⊥) → spender_from 1 (ls ++ ((pre ++ (x ∷ [])) ∷ [])) (base + j) ≡ spender_from 1 (ls ++ (pre ∷ [])) (base + j)
      other j ne =
          spender_last 1 ls (pre ++ (x ∷ [])) (base + j)
          ∙ ap (λ (t : Bool). pick (listed (base + j) (numbers_in ls)) (spender_from 1 ls (base + j)) (pick t (1 + length ls) 0)) (other-listed (base + j) x pre ne)
          ∙ sym (spender_last 1 ls pre (base + j))

      this : (a b : Bool) → listed x (numbers_in ls) ≡ a → listed x pre ≡ b → pick a (spender_from 1 ls x) (pick b (1 + length ls) 0) ≡ 0 → pick a (spender_from 1 ls x) (1 + length ls) ≡ 1 + length ls
      this true b p q e = absurd (omega (arith, spender_some 1 ls x p, e))
      this false b p q e = refl

      kept : (a b : Bool) → listed x (numbers_in ls) ≡ a → listed x pre ≡ b → (pick a (spender_from 1 ls x) (pick b (1 + length ls) 0) ≡ 0 → ⊥)
          → pick a (spender_from 1 ls x) (1 + length ls) ≡ pick a (spender_from 1 ls x) (pick b (1 + length ls) 0)
      kept true b p q ne = refl
      kept false true p q ne = refl
      kept false false p q ne = absurd (ne refl)

      -- its own, now
      here : spender_from 1 (ls ++ ((pre ++ (x ∷ [])) ∷ [])) x ≡ pick (listed x (numbers_in ls)) (spender_from 1 ls x) (1 + length ls)
      here = spender_last 1 ls (pre ++ (x ∷ [])) x ∙ ap (λ (t : Bool). pick (listed x (numbers_in ls)) (spender_from 1 ls x) (pick t (1 + length ls) 0)) (last_listed x x pre refl)

      go : (t : Bool) → inside base size x ≡ t → (u : Bool) → eqb (get_or marks (x - base) 0) 0 ≡ u
          → Marks base size ls (pre ++ (x ∷ [])) (pick t (pick u (set marks (x - base) (1 + length ls)) marks) marks)
      go false i u z = record { size_is = m.size_is; says = λ j h. m.says j h ∙ sym (other j (λ e. clash (inside base size x) (told-inside base size x (omega arith) (omega arith)) i)) }
      go true i true z =
          let w = inside-told base size x i in
          let a = at-number pre marks x m i in
          let zero-there = eqb-true (get_or marks (x - base) 0) 0 z in
          record { size_is = length-set marks (x - base) (1 + length ls) ∙ m.size_is; says = λ j h. at j h (eqb (x - base) j) refl w (sym a ∙ zero-there) }
        where
          at : (j : ℕ) → j < size → (t : Bool) → eqb (x - base) j ≡ t → (base ≤ x) × (x < base + size)
              → pick (listed x (numbers_in ls)) (spender_from 1 ls x) (pick (listed x pre) (1 + length ls) 0) ≡ 0
              → get_or (set marks (x - base) (1 + length ls)) j 0 ≡ spender_from 1 (ls ++ ((pre ++ (x ∷ [])) ∷ [])) (base + j)
          at j h true e w none =
              let is = eqb-true (x - base) j e in
              let y : base + j ≡ x = omega (arith, is, w.0) in
              ap (λ (i : ℕ). get_or (set marks (x - base) (1 + length ls)) i 0) (sym is) ∙ get_or-set_same marks (x - base) (1 + length ls) 0 (omega (arith, h, is, m.size_is))
              ∙ sym (ap (spender_from 1 (ls ++ ((pre ++ (x ∷ [])) ∷ []))) y ∙ here ∙ this (listed x (numbers_in ls)) (listed x pre) refl refl none)
          at j h false e w none =
              get_or-set_other marks (x - base) j (1 + length ls) 0 (λ q. eqb-false (x - base) j e (sym q)) ∙ m.says j h
              ∙ sym (other j (λ y. eqb-false (x - base) j e (omega (arith, y, w.0))))
      go true i false z =
          let w = inside-told base size x i in
          let a = at-number pre marks x m i in
          let some = eqb-false (get_or marks (x - base) 0) 0 z in
          record { size_is = m.size_is; says = λ j h. at j h (eqb (base + j) x) refl (λ e. some (a ∙ e)) }
        where
          at : (j : ℕ) → j < size → (t : Bool) → eqb (base + j) x ≡ t → (pick (listed x (numbers_in ls)) (spender_from 1 ls x) (pick (listed x pre) (1 + length ls) 0) ≡ 0 → ⊥)
              → get_or marks j 0 ≡ spender_from 1 (ls ++ ((pre ++ (x ∷ [])) ∷ [])) (base + j)
          at j h true e some =
              let y = eqb-true (base + j) x e in
              m.says j h ∙ ap (spender_from 1 (ls ++ (pre ∷ []))) y ∙ spender_last 1 ls pre x
              ∙ sym (ap (spender_from 1 (ls ++ ((pre ++ (x ∷ [])) ∷ []))) y ∙ here ∙ kept (listed x (numbers_in ls)) (listed x pre) refl refl some)
          at j h false e some = m.says j h ∙ sym (other j (eqb-false (base + j) x e))

  -- all numbers of a transaction
  pub marks_all : (pre marks ns : List ℕ) → Marks base size ls pre marks → Marks base size ls (pre ++ ns) (mark_all base size (1 + length ls) marks ns)
  unfolding mark_all
  marks_all pre marks [] m = rw (append-nil pre) m
  marks_all pre marks (x ∷ ns) m = rw append_assoc at (marks_all (pre ++ (x ∷ [])) (mark_one base size (1 + length ls) marks x) ns (marks_more pre marks x m))

  pub twice-is : (pre marks ns : List ℕ) → Marks base size ls pre marks → twice base size (1 + length ls) marks ns ≡ not (fresh_in base size (numbers_in ls ++ pre) ns)
  unfolding twice fresh_in
  twice-is pre marks [] m = refl
  twice-is pre marks (x ∷ ns) m =
      rw (marked-is pre marks x m) (go (inside base size x && listed x (numbers_in ls ++ pre))
      (rw append_assoc (twice-is (pre ++ (x ∷ [])) (mark_one base size (1 + length ls) marks x) ns (marks_more pre marks x m))))
    where
      go : (t : Bool) → twice base size (1 + length ls) (mark_one base size (1 + length ls) marks x) ns ≡ not (fresh_in base size ((numbers_in ls ++ pre) ++ (x ∷ [])) ns)
          → (t || twice base size (1 + length ls) (mark_one base size (1 + length ls) marks x) ns) ≡ not (not t && fresh_in base size ((numbers_in ls ++ pre) ++ (x ∷ [])) ns)
      go true e = refl
      go false e = e

-- a number of a fresh list was not listed before
pub fresh_new : (before l : List ℕ) → fresh_numbers before l ≡ true → (x : ℕ) → listed x l ≡ true → listed x before ≡ false
unfolding fresh_numbers listed
fresh_new before [] e x h = clash false h refl
fresh_new before (y ∷ l) e x h = go (or_told (eqb y x) (listed x l) h) (fresh_new (before ++ (y ∷ [])) l (and_right (not (listed y before)) (fresh_numbers (before ++ (y ∷ [])) l) e) x)
  where
    go : (eqb y x ≡ true) ⊎ (listed x l ≡ true) → (listed x l ≡ true → listed x (before ++ (y ∷ [])) ≡ false) → listed x before ≡ false
    go (inl p) f = ap (λ (z : ℕ). listed z before) (sym (eqb-true y x p)) ∙ not-true (listed y before) (and_left (not (listed y before)) (fresh_numbers (before ++ (y ∷ [])) l) e)
    go (inr p) f = else_false (listed x before) (λ g. clash (listed x (before ++ (y ∷ []))) (listed_append x before (y ∷ []) ∙ or_left (listed x before) (listed x (y ∷ [])) g) (f p))

-- ---- fresh in every window is fresh

pub fresh_in_lem : (base size : ℕ) (before l : List ℕ) → fresh_numbers before l ≡ true → fresh_in base size before l ≡ true
unfolding fresh_numbers fresh_in
fresh_in_lem base size before [] e = refl
fresh_in_lem base size before (x ∷ l) e =
    let new = not-true (listed x before) (and_left (not (listed x before)) (fresh_numbers (before ++ (x ∷ [])) l) e) in
    and_both (not (inside base size x && listed x before)) (fresh_in base size (before ++ (x ∷ [])) l) (rw new (go (inside base size x))) (fresh_in_lem base size (before ++ (x ∷ [])) l (and_right (not (listed x before)) (fresh_numbers (before ++ (x ∷ [])) l) e))
  where
    go : (t : Bool) → not (t && false) ≡ true
    go true = refl
    go false = refl

-- every number lies in one of the windows of so many from 0 on
pub in_fresh : (size : ℕ) (before l : List ℕ) → ((x : ℕ) → (w : ℕ) × (inside (w * size) size x ≡ true)) → ((w : ℕ) → fresh_in (w * size) size before l ≡ true) → fresh_numbers before l ≡ true
unfolding fresh_numbers fresh_in
in_fresh size before [] some f = refl
in_fresh size before (x ∷ l) some f =
    let w = some x in
    let e = f w.0 in
    let n = not-true (inside (w.0 * size) size x && listed x before) (and_left (not (inside (w.0 * size) size x && listed x before)) (fresh_in (w.0 * size) size (before ++ (x ∷ [])) l) e) in
    and_both (not (listed x before)) (fresh_numbers (before ++ (x ∷ [])) l) (ap not (rw w.1 at n))
    (in_fresh size (before ++ (x ∷ [])) l some (λ v. and_right (not (inside (v * size) size x && listed x before)) (fresh_in (v * size) size (before ++ (x ∷ [])) l) (f v)))

-- ---- sums

pub sum_same : (f g : ℕ → ℕ) (n : ℕ) → ((x : ℕ) → x < n → f x ≡ g x) → sum_to f n ≡ sum_to g n
unfolding sum_to
sum_same f g zero h = refl
sum_same f g (suc n) h = ap₂ ◌+◌ (sum_same f g n (λ x l. h x (omega arith))) (h n (omega arith))

sum_add : (f g : ℕ → ℕ) (n : ℕ) → sum_to (λ x. f x + g x) n ≡ sum_to f n + sum_to g n
unfolding sum_to
sum_add f g zero = refl
sum_add f g (suc n) = omega (arith, sum_add f g n)

sum-zero : (f : ℕ → ℕ) (n : ℕ) → ((x : ℕ) → x < n → f x ≡ 0) → sum_to f n ≡ 0
unfolding sum_to
sum-zero f zero h = refl
sum-zero f (suc n) h = omega (arith, sum-zero f n (λ x l. h x (omega arith)), h n (omega arith))

-- one number alone
sum_one : (f : ℕ → ℕ) (y n : ℕ) → y < n → sum_to (λ x. pick (eqb y x) (f x) 0) n ≡ f y
unfolding sum_to
sum_one f y zero h = absurd (omega arith)
sum_one f y (suc n) h = go (eqb y n) refl (sum_one f y n)
  where
    before : y ≡ n → sum_to (λ x. pick (eqb y x) (f x) 0) n ≡ 0
    before e = sum-zero (λ x. pick (eqb y x) (f x) 0) n (λ x l. ap (λ (t : Bool). pick t (f x) 0) (ne_eqb y x (λ z. omega arith)))

    go : (t : Bool) → eqb y n ≡ t → (y < n → sum_to (λ x. pick (eqb y x) (f x) 0) n ≡ f y) → sum_to (λ x. pick (eqb y x) (f x) 0) n + pick t (f n) 0 ≡ f y
    go true e g = let is = eqb-true y n e in omega (arith, before is, ap f is)
    go false e g = omega (arith, g (let ne = eqb-false y n e in below ne))
      where
        below : (y ≡ n → ⊥) → y < n
        below ne = omega arith

-- numbers that differ, each below n: the sum over all that are listed
pub sum-listed : (f : ℕ → ℕ) (n : ℕ) (before l : List ℕ) → fresh_numbers before l ≡ true → ((x : ℕ) → listed x l ≡ true → x < n) → sum_to (λ x. pick (listed x l) (f x) 0) n ≡ sum_at f l
unfolding fresh_numbers sum_at listed
sum-listed f n before [] e low = sum-zero (λ x. 0) n (λ x l. refl)
sum-listed f n before (y ∷ l) e low =
    let rest = and_right (not (listed y before)) (fresh_numbers (before ++ (y ∷ [])) l) e in
    sum_same (λ x. pick (eqb y x || listed x l) (f x) 0) (λ x. pick (eqb y x) (f x) 0 + pick (listed x l) (f x) 0) n (λ x h. split x (eqb y x) refl (listed x l) refl)
    ∙ sum_add (λ x. pick (eqb y x) (f x) 0) (λ x. pick (listed x l) (f x) 0) n
    ∙ ap₂ ◌+◌ (sum_one f y n (low y (or_left (eqb y y) (listed y l) (eq-eqb y y refl)))) (sum-listed f n (before ++ (y ∷ [])) l rest (λ x h. low x (or_right (eqb y x) (listed x l) h)))
  where
    -- none of the others is y again
    apart : (x : ℕ) → listed x l ≡ true → y ≡ x → ⊥
    apart x h is = clash (listed x (before ++ (y ∷ []))) (last_listed x y before is) (fresh_new (before ++ (y ∷ [])) l (and_right (not (listed y before)) (fresh_numbers (before ++ (y ∷ [])) l) e) x h)

    split : (x : ℕ) (a : Bool) → eqb y x ≡ a → (b : Bool) → listed x l ≡ b → pick (a || b) (f x) 0 ≡ pick a (f x) 0 + pick b (f x) 0
    split x true p true q = absurd (apart x q (eqb-true y x p))
    split x true p false q = omega arith
    split x false p b q = omega arith

-- What Item 12 promises: the checker passes exactly the orders that hold every transaction once, after its parents in the set; ours passes, is the least in
-- dictionary order of all that pass, and is none exactly when no order passes.
use Prim.Native.Nat.{ℕ, zero, suc, ◌+◌, ◌<◌, ◌≤◌}
use mathlib.Core.Path.{◌≡◌, refl, sym}
use mathlib.Core.Bool.{Bool, true, false}
use mathlib.Core.List.{List, [], ◌∷◌, ◌++◌, append_assoc, append-nil}
use mathlib.Core.Logic.{◌⊎◌, inl, inr, ◌↔◌}
use Rattle.std.specs.Prelude.{Option, None, Some}
use native.Mathlib.Decide.{dec_lt}
use native.Mathlib.Omega.{arith}
use lib.ListN.{length, get_or, take, length-append}
use Rattle.spv.proofs.TestLaws.{clash, and_left, and_right, and_both, else_false}
use Rattle.order.proofs.ListedLaws.{listed-told, told-listed, early_told, told_early, last_told}
use Rattle.order.proofs.Pigeon.{Once, Differ, once-differ, few, upto, upto_length, upto_told, told_upto, upto_differ}
use Rattle.order.specs.Order.{ready, check_from, check, first, placing, ours, NotAfter}
use Rattle.order.proofs.OrderLaws.{Ready, ready-told, told-ready, Checked, check-told, told-check, First, first-told, first-none, placing-done, Turn, placing-told, placing_stuck}
use Rattle.order.specs.Listed.{listed}

module _ (n : ℕ) (depends : ℕ → ℕ → Bool) where
  -- "it holds every transaction once, after its parents in the set", over any relation
  pub record Passes (order : List ℕ) : Type 0 where
    pub numbers : (k : ℕ) → k < length order → get_or order k 0 < n
    pub every : (i : ℕ) → i < n → (k : ℕ) × (k < length order) × (get_or order k 0 ≡ i)
    pub once : (j k : ℕ) → j < length order → k < length order → get_or order j 0 ≡ get_or order k 0 → j ≡ k
    pub after : (j k : ℕ) → j < length order → k < length order → depends (get_or order k 0) (get_or order j 0) ≡ true → j < k

module _ (n : ℕ) (depends : ℕ → ℕ → Bool) where
  -- ---- the checker

  -- numbers below n, each once, are no more than n
  module _ (o : List ℕ) (numbers : (k : ℕ) → k < length o → get_or o k 0 < n) where
    pub few-numbers : Differ o → length o ≤ n
    few-numbers d = let h : length o ≤ length (upto n) = few o (upto n) d low in omega (arith, upto_length n)
      where
        low : (x : ℕ) → listed x o ≡ true → listed x (upto n) ≡ true
        low x e = let w = listed-told x o e in told_upto n x (let z : get_or o w.0 0 < n = numbers w.0 w.1 in omega (arith, w.2))

    -- n of them are all
    pub all-numbers : Differ o → length o ≡ n → (i : ℕ) → i < n → listed i o ≡ true
    all-numbers d size i h = go (listed i o) refl
      where
        low : (x : ℕ) → listed x (i ∷ o) ≡ true → listed x (upto n) ≡ true
        low x e = at (listed-told x (i ∷ o) e)
          where
            at : (k : ℕ) × (k < suc (length o)) × (get_or (i ∷ o) k 0 ≡ x) → listed x (upto n) ≡ true
            at (zero, l, m) = told_upto n x (omega arith)
            at (suc k, l, m) = told_upto n x (let z : get_or o k 0 < n = numbers k (omega (arith, l)) in omega arith)

        go : (t : Bool) → listed i o ≡ t → listed i o ≡ true
        go true e = e
        go false e = let z : suc (length o) ≤ length (upto n) = few (i ∷ o) (upto n) (e, d) low in absurd (omega (arith, upto_length n))

  module _ (o : List ℕ) (c : Checked n depends [] o) where
    at : (k : ℕ) → k < length o → Ready n depends (take k o) (get_or o k 0)
    at k h = ready-told n depends (take k o) (get_or o k 0) (c.each k h)

    apart : (j k : ℕ) → j < k → k < length o → get_or o j 0 ≡ get_or o k 0 → ⊥
    apart j k l h e = clash (listed (get_or o k 0) (take k o)) (told_early (get_or o k 0) o k j (omega arith) l e) (at k h).new

    pub checked-once : Once o
    checked-once j k a b e = by (dec_lt j k) (dec_lt k j)
      where
        by : Dec (j < k) → Dec (k < j) → j ≡ k
        by (yes l) m = absurd (apart j k l b e)
        by (no l) (yes m) = absurd (apart k j m a (sym e))
        by (no l) (no m) = omega arith

    pub checked-passes : Passes n depends o
    checked-passes = record {
      numbers = λ k h. (at k h).low;
      every = λ i h. listed-told i o (all-numbers o (λ k h. (at k h).low) (once-differ o checked-once) (omega (arith, c.size)) i h);
      once = checked-once;
      after = λ j k a b d. settle j k a (early_told (get_or o j 0) o k (omega arith) ((at k b).rests (get_or o j 0) (at j a).low d)) b;
    }
      where
        settle : (j k : ℕ) → j < length o → (i : ℕ) × (i < k) × (get_or o i 0 ≡ get_or o j 0) → k < length o → j < k
        settle j k a (i, l, e) b = let q : i ≡ j = checked-once i j (omega (arith, l)) a e in omega (arith, l)

  module _ (o : List ℕ) (p : Passes n depends o) where
    passed-size : length o ≡ n
    passed-size =
        let a : length o ≤ n = few-numbers o p.numbers (once-differ o p.once) in
        let b : length (upto n) ≤ length o = few (upto n) o (upto_differ n) held in
        omega (arith, upto_length n)
      where
        held : (x : ℕ) → listed x (upto n) ≡ true → listed x o ≡ true
        held x e = let w = p.every x (upto_told n x e) in told-listed x o w.0 w.1 w.2

    passed-ready : (k : ℕ) → k < length o → Ready n depends (take k o) (get_or o k 0)
    passed-ready k h = record {
      low = p.numbers k h;
      new = else_false (listed (get_or o k 0) (take k o)) (λ e. again (early_told (get_or o k 0) o k (omega arith) e));
      rests = λ j l d. early j d (p.every j l);
    }
      where
        again : (j : ℕ) × (j < k) × (get_or o j 0 ≡ get_or o k 0) → ⊥
        again (j, l, e) = let q : j ≡ k = p.once j k (omega (arith, l)) h e in omega (arith, l)

        early : (j : ℕ) → depends (get_or o k 0) j ≡ true → (i : ℕ) × (i < length o) × (get_or o i 0 ≡ j) → listed j (take k o) ≡ true
        early j d (i, l, e) = told_early j o k i (omega arith) (p.after i k l h (rw e d)) e

    pub passes-checked : Checked n depends [] o
    passes-checked = record { size = omega (arith, passed-size); each = λ k h. told-ready n depends (take k o) (get_or o k 0) (passed-ready k h) }

  -- "a small checker passes either exactly when it holds every transaction once, after its parents in the set"
  pub check-passes : (o : List ℕ) → check n depends o ≡ true → Passes n depends o
  unfolding check
  check-passes o e = checked-passes o (check-told n depends [] o e)

  pub passes-check : (o : List ℕ) → Passes n depends o → check n depends o ≡ true
  unfolding check
  passes-check o p = told-check n depends [] o (passes-checked o p)

  -- ---- ours passes

  placing-checked : (k : ℕ) (placed l : List ℕ) → length placed + k ≡ n → placing n depends k placed ≡ Some l → check_from n depends placed l ≡ true
  placing-checked zero placed l size e =
      let d = placing-done n depends placed in
      let q : [] ≡ l = cc in
      rw (← q) (told-check n depends placed [] (record { size = size; each = λ k h. absurd (omega arith) }))
  placing-checked (suc k) placed l size e = go (placing-told n depends k placed l e) (placing-checked k)
    where
      go : Turn n depends k placed l → ((placed l : List ℕ) → length placed + k ≡ n → placing n depends k placed ≡ Some l → check_from n depends placed l ≡ true) → check_from n depends placed l ≡ true
      go w f = rw (← w.whole) (joined w.taken w.rest (first-told n depends placed n 0 w.taken (unfold first in w.chosen)).here (f (placed ++ (w.taken ∷ [])) w.rest (omega (arith, length-append placed (w.taken ∷ []))) w.goes))
        where
          joined : (i : ℕ) (r : List ℕ) → ready n depends placed i ≡ true → check_from n depends (placed ++ (i ∷ [])) r ≡ true → check_from n depends placed (i ∷ r) ≡ true
          joined i r a b = unfold check_from in and_both (ready n depends placed i) (check_from n depends (placed ++ (i ∷ [])) r) a b

  pub ours-passes : (l : List ℕ) → ours n depends ≡ Some l → Passes n depends l
  unfolding ours check
  ours-passes l e = check-passes l (placing-checked n [] l (omega arith) e)

  -- ---- ours is the least

  placing-least : (k : ℕ) (placed l m : List ℕ) → length placed + k ≡ n → placing n depends k placed ≡ Some l → check_from n depends placed m ≡ true → NotAfter l m
  placing-least zero placed l m size e c =
      let d = placing-done n depends placed in
      let q : [] ≡ l = cc in
      rw (← q) tt
  placing-least (suc k) placed l m size e c = go (placing-told n depends k placed l e) (placing-least k)
    where
      chosen : (w : Turn n depends k placed l) → First n depends placed 0 n w.taken
      chosen w = first-told n depends placed n 0 w.taken (unfold first in w.chosen)

      step : (i : ℕ) (r m : List ℕ) → First n depends placed 0 n i → check_from n depends placed m ≡ true
          → ((m : List ℕ) → check_from n depends (placed ++ (i ∷ [])) m ≡ true → NotAfter r m) → NotAfter (i ∷ r) m
      step i r [] w c f = let s = (check-told n depends placed [] c).size in absurd (omega arith)
      step i r (y ∷ m) w c f = by (dec_lt i y) (dec_lt y i)
        where
          head : ready n depends placed y ≡ true
          head = and_left (ready n depends placed y) (check_from n depends (placed ++ (y ∷ [])) m) (unfold check_from in c)

          tail : check_from n depends (placed ++ (y ∷ [])) m ≡ true
          tail = and_right (ready n depends placed y) (check_from n depends (placed ++ (y ∷ [])) m) (unfold check_from in c)

          by : Dec (i < y) → Dec (y < i) → (i < y) ⊎ ((i ≡ y) × NotAfter r m)
          by (yes a) b = inl a
          by (no a) (yes b) = clash (ready n depends placed y) head (w.before y (omega arith) b)
          by (no a) (no b) = let q : i ≡ y = omega arith in inr (q, f m (rw q tail))

      go : Turn n depends k placed l
          → ((placed l m : List ℕ) → length placed + k ≡ n → placing n depends k placed ≡ Some l → check_from n depends placed m ≡ true → NotAfter l m) → NotAfter l m
      go w f = rw (← w.whole) (step w.taken w.rest m (chosen w) c (λ x d. f (placed ++ (w.taken ∷ [])) w.rest x (omega (arith, length-append placed (w.taken ∷ []))) w.goes d))

  -- ours is the least in dictionary order of all that pass
  pub ours-least : (l m : List ℕ) → ours n depends ≡ Some l → Passes n depends m → NotAfter l m
  unfolding ours check
  ours-least l m e p = placing-least n [] l m (omega arith) e (passes-check m p)

  -- ---- ours is none exactly when no order passes

  -- where nothing is ready, all of an order that is checked is placed: its first that is not would be ready
  module _ (placed : List ℕ) (nothing : (i : ℕ) → i < n → ready n depends placed i ≡ false) where
    held : (p l : List ℕ) → ((x : ℕ) → listed x p ≡ true → listed x placed ≡ true) → check_from n depends p l ≡ true → (x : ℕ) → listed x (p ++ l) ≡ true → listed x placed ≡ true
    held p [] f c x e = f x (rw append-nil at e)
    held p (i ∷ l) f c x e = held (p ++ (i ∷ [])) l (λ y d. by y (last_told y i p d)) tail x (rw append_assoc e)
      where
        tail : check_from n depends (p ++ (i ∷ [])) l ≡ true
        tail = and_right (ready n depends p i) (check_from n depends (p ++ (i ∷ [])) l) (unfold check_from in c)

        head : Ready n depends p i
        head = ready-told n depends p i (and_left (ready n depends p i) (check_from n depends (p ++ (i ∷ [])) l) (unfold check_from in c))

        here : (t : Bool) → listed i placed ≡ t → listed i placed ≡ true
        here true h = h
        here false h =
            clash (ready n depends placed i) (told-ready n depends placed i (record { low = head.low; new = h; rests = λ j a d. f j (head.rests j a d) })) (nothing i head.low)

        by : (y : ℕ) → (listed y p ≡ true) ⊎ (i ≡ y) → listed y placed ≡ true
        by y (inl d) = f y d
        by y (inr q) = rw (← q) (here (listed i placed) refl)

    stuck : length placed < n → (o : List ℕ) → check n depends o ≡ true → ⊥
    unfolding check
    stuck low o c =
        let w = check-told n depends [] o c in
        let all : length o ≤ length placed = few o placed (once-differ o (checked-once o w)) (λ x e. held [] o (λ y d. none-listed y d) c x e) in
        omega (arith, w.size)
      where
        none-listed : (y : ℕ) → listed y [] ≡ true → listed y placed ≡ true
        none-listed y d = let w = listed-told y [] d in absurd (omega (arith, w.1))

  placing-none-told : (k : ℕ) (placed : List ℕ) → length placed + k ≡ n → placing n depends k placed ≡ None → (o : List ℕ) → check n depends o ≡ true → ⊥
  placing-none-told zero placed size e o c = let d = placing-done n depends placed in let z : ◌≡◌ {A = ℕ} 0 1 = cc in omega arith
  placing-none-told (suc k) placed size e o c = go (first n depends placed) refl (λ p s d. placing-none-told k p s d o c)
    where
      go : (t : Option ℕ) → first n depends placed ≡ t → ((p : List ℕ) → length p + k ≡ n → placing n depends k p ≡ None → ⊥) → ⊥
      go None h f = stuck placed (λ i low. first-none n depends placed n 0 (unfold first in h) i (omega arith) (omega arith)) (omega arith) o c
      go (Some i) h f = f (placed ++ (i ∷ [])) (omega (arith, length-append placed (i ∷ []))) (placing_stuck n depends k placed i h e)

  -- "29 exactly when no such order exists"
  pub none_passes : ours n depends ≡ None → (o : List ℕ) → Passes n depends o → ⊥
  unfolding ours
  none_passes e o p = placing-none-told n [] (omega arith) e o (passes-check o p)

  pub passes_none : ((o : List ℕ) → Passes n depends o → ⊥) → ours n depends ≡ None
  passes_none f = go (ours n depends) refl
    where
      go : (t : Option (List ℕ)) → ours n depends ≡ t → ours n depends ≡ None
      go None e = e
      go (Some l) e = absurd (f l (ours-passes l e))

  pub none-exactly : (ours n depends ≡ None) ↔ ((o : List ℕ) → Passes n depends o → ⊥)
  none-exactly = (none_passes, passes_none)

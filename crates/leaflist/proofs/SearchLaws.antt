-- Laws of the search over a list of leaves by halving.
use Rattle.std.proofs.Common.{Some, None, Ordering, Less, Equal, Greater, nat_cmp}
use Rattle.std.specs.Ordering.{MatchOrdering, ordering_then}
use Rattle.std.proofs.lemmas.Cmp.{ranked}
use mathlib.Core.Path.{◌≡◌, refl, ap, sym, ◌∙◌}
use mathlib.Core.List.{List, [], ◌∷◌}
use mathlib.Core.Bool.{Bool, true, false, ◌&&◌, ◌||◌}
use Prim.Native.Nat.{ℕ, zero, suc, ◌+◌, ◌*◌, ◌/◌, ◌<◌, ◌≤◌}
use lib.ListN.{length, get_or}
use lib.Dec.{ltb, eqb}
use native.Mathlib.Omega.{arith}
use borrow.Author.Tests.{eq-eqb, ltb-true, ltb-false, eqb-true}
use Rattle.format.specs.Parse.{pick, ok}
use Rattle.format.specs.Bump.{Bump, bump_whole}
use Rattle.leaflist.specs.Rows.{side_of}
use Rattle.leaflist.specs.LeafList.{Row, leaf_list, words_of, place_in, find_row}
use Rattle.leaflist.proofs.LeafListTheorems.{precedes, before, AllAfter, RisingRows, list-search, rising}

-- a level and offset before another
pub data Earlier (k o j p : ℕ) : Type 0 where
  lower : k < j → Earlier k o j p
  nearer : k ≡ j → o < p → Earlier k o j p

less : (k o j p : ℕ) → precedes k o j p ≡ true → Earlier k o j p
unfolding precedes
less k o j p e = go (ltb k j) refl (eqb k j) refl (ltb o p) refl e
  where
    go : (a : Bool) → ltb k j ≡ a → (b : Bool) → eqb k j ≡ b → (c : Bool) → ltb o p ≡ c → (a || (b && c)) ≡ true → Earlier k o j p
    go true f b g c h e = lower (ltb-true k j f)
    go false f true g true h e = nearer (eqb-true k j g) (ltb-true o p h)
    go false f true g false h e = let z : ◌≡◌ {A = ℕ} 0 1 = cc in absurd (omega arith)
    go false f false g c h e = let z : ◌≡◌ {A = ℕ} 0 1 = cc in absurd (omega arith)

less_on : {k o j p i q : ℕ} → Earlier k o j p → Earlier j p i q → Earlier k o i q
less_on (lower a) (lower b) = lower (omega arith)
less_on (lower a) (nearer b c) = lower (omega arith)
less_on (nearer a c) (lower b) = lower (omega arith)
less_on (nearer a c) (nearer b d) = nearer (a ∙ b) (omega arith)

pub less_not : {k o j p : ℕ} → Earlier k o j p → k ≡ j → o ≡ p → ⊥
less_not (lower a) e f = omega arith
less_not (nearer a b) e f = omega arith

-- what the order of two levels and offsets says
module _ (k o j p : ℕ) where
  side_less : side_of k o j p ≡ Less → Earlier k o j p
  side_less e = go (nat_cmp k j) (ranked k j (nat_cmp k j) refl) (nat_cmp o p) (ranked o p (nat_cmp o p) refl) e
    where
      go : (a : Ordering) → MatchOrdering a (k < j) (k ≡ j) (j < k) → (b : Ordering) → MatchOrdering b (o < p) (o ≡ p) (p < o) → ordering_then a b ≡ Less → Earlier k o j p
      go Less x b y e = lower x
      go Equal x Less y e = nearer x y
      go Equal x Equal y e = cc
      go Equal x Greater y e = cc
      go Greater x b y e = cc

  side_greater : side_of k o j p ≡ Greater → Earlier j p k o
  side_greater e = go (nat_cmp k j) (ranked k j (nat_cmp k j) refl) (nat_cmp o p) (ranked o p (nat_cmp o p) refl) e
    where
      go : (a : Ordering) → MatchOrdering a (k < j) (k ≡ j) (j < k) → (b : Ordering) → MatchOrdering b (o < p) (o ≡ p) (p < o) → ordering_then a b ≡ Greater → Earlier j p k o
      go Less x b y e = cc
      go Equal x Less y e = cc
      go Equal x Equal y e = cc
      go Equal x Greater y e = nearer (sym x) y
      go Greater x b y e = lower x

  side_equal : side_of k o j p ≡ Equal → (k ≡ j) × (o ≡ p)
  side_equal e = go (nat_cmp k j) (ranked k j (nat_cmp k j) refl) (nat_cmp o p) (ranked o p (nat_cmp o p) refl) e
    where
      go : (a : Ordering) → MatchOrdering a (k < j) (k ≡ j) (j < k) → (b : Ordering) → MatchOrdering b (o < p) (o ≡ p) (p < o) → ordering_then a b ≡ Equal → (k ≡ j) × (o ≡ p)
      go Less x b y e = cc
      go Equal x Less y e = cc
      go Equal x Equal y e = (x, y)
      go Equal x Greater y e = cc
      go Greater x b y e = cc

-- level, offset and place of row i, by the words
abbrev pub level_at : List ℕ → ℕ → ℕ
level_at w i = get_or w (i * 3) 0

abbrev pub offset_in : List ℕ → ℕ → ℕ
offset_in w i = get_or w (i * 3 + 1) 0

abbrev pub place_at : List ℕ → ℕ → ℕ
place_at w i = get_or w (i * 3 + 2) 0

words-length : (l : List Row) → length (words_of l) ≡ 3 * length l
unfolding words_of
words-length [] = refl
words-length (r ∷ l) = let h = words-length l in omega (arith, h)

shift : (r : Row) (l : List Row) (i d : ℕ) → get_or (words_of (r ∷ l)) (suc i * 3 + d) 0 ≡ get_or (words_of l) (i * 3 + d) 0
unfolding words_of
shift r l i d = let e : suc i * 3 + d ≡ suc (suc (suc (i * 3 + d))) = omega arith in ap (λ (n : ℕ). get_or (r.level ∷ r.offset ∷ r.place ∷ words_of l) n 0) e

shift_level : (r : Row) (l : List Row) (i : ℕ) → level_at (words_of (r ∷ l)) (suc i) ≡ level_at (words_of l) i
shift_level r l i =
    let e : suc i * 3 ≡ suc i * 3 + 0 = omega arith in
    let f : i * 3 + 0 ≡ i * 3 = omega arith in
    ap (λ (n : ℕ). get_or (words_of (r ∷ l)) n 0) e ∙ shift r l i 0 ∙ ap (λ (n : ℕ). get_or (words_of l) n 0) f

-- the first row stands before all others
first-before : (r : Row) (l : List Row) (i : ℕ) → AllAfter r l → i < length l → Earlier r.level r.offset (level_at (words_of l) i) (offset_in (words_of l) i)
unfolding AllAfter before words_of
first-before r [] i a h = absurd (omega arith)
first-before r (t ∷ l) zero a h = less r.level r.offset t.level t.offset a.0
first-before r (t ∷ l) (suc i) a h = rw (shift_level t l i, shift t l i 1) (first-before r l i a.1 (omega arith))

ascending : (l : List Row) (i j : ℕ) → RisingRows l → i < j → j < length l → Earlier (level_at (words_of l) i) (offset_in (words_of l) i) (level_at (words_of l) j) (offset_in (words_of l) j)
unfolding RisingRows words_of
ascending [] i j r h g = absurd (omega arith)
ascending (t ∷ l) i zero r h g = absurd (omega arith)
ascending (t ∷ l) zero (suc j) r h g = rw (shift_level t l j, shift t l j 1) (first-before t l j r.0 (omega arith))
ascending (t ∷ l) (suc i) (suc j) r h g = rw (shift_level t l j, shift t l j 1, shift_level t l i, shift t l i 1) (ascending l i j r.1 (omega arith) (omega arith))

-- a row that matches is the one found; if none does, there is none
row-found : (k o : ℕ) (l : List Row) (i : ℕ) → RisingRows l → i < length l → level_at (words_of l) i ≡ k → offset_in (words_of l) i ≡ o → Some (place_at (words_of l) i) ≡ find_row k o l
unfolding find_row RisingRows words_of
row-found k o [] i r h e f = absurd (omega arith)
row-found k o (t ∷ l) zero r h e f = rw (eq-eqb t.level k e, eq-eqb t.offset o f) refl
row-found k o (t ∷ l) (suc i) r h e f = ap Some (shift t l i 2) ∙ row-found k o l i r.1 (omega arith) (sym (shift_level t l i) ∙ e) (sym (shift t l i 1) ∙ f) ∙ sym passed
  where
    passed : find_row k o (t ∷ l) ≡ find_row k o l
    passed = go (eqb t.level k) refl (eqb t.offset o) refl
      where
        go : (a : Bool) → eqb t.level k ≡ a → (b : Bool) → eqb t.offset o ≡ b → pick (a && b) (Some t.place) (find_row k o l) ≡ find_row k o l
        go true x true y =
            absurd (less_not (first-before t l i r.0 (omega arith)) (eqb-true t.level k x ∙ sym (sym (shift_level t l i) ∙ e)) (eqb-true t.offset o y ∙ sym (sym (shift t l i 1) ∙ f)))
        go true x false y = refl
        go false x b y = refl

none_found : (k o : ℕ) (l : List Row) → ((i : ℕ) → i < length l → level_at (words_of l) i ≡ k → offset_in (words_of l) i ≡ o → ⊥) → find_row k o l ≡ None
unfolding find_row words_of
none_found k o [] n = refl
none_found k o (t ∷ l) n = go (eqb t.level k) refl (eqb t.offset o) refl (none_found k o l (λ i h e f. n (suc i) (omega arith) (shift_level t l i ∙ e) (shift t l i 1 ∙ f)))
  where
    go : (a : Bool) → eqb t.level k ≡ a → (b : Bool) → eqb t.offset o ≡ b → find_row k o l ≡ None → pick (a && b) (Some t.place) (find_row k o l) ≡ None
    go true x true y r = absurd (n zero (omega arith) (eqb-true t.level k x) (eqb-true t.offset o y))
    go true x false y r = r
    go false x b y r = r

-- ---- halving

-- the list is that of a BUMP
pub record Beside (w s : List ℕ) (b : Bump) (q : ℕ) : Type 0 where
  pub read : bump_whole s ≡ ok b q
  pub is : w ≡ words_of (leaf_list s b)

-- rows below low stand before what is looked for, rows from high on behind it
pub record Between (w : List ℕ) (k o low high : ℕ) : Type 0 where
  pub before-low : (i : ℕ) → i < low → Earlier (level_at w i) (offset_in w i) k o
  pub from_high : (i : ℕ) → high ≤ i → i < length w / 3 → Earlier k o (level_at w i) (offset_in w i)

abbrev pub Narrowed : List ℕ → ℕ → ℕ → ℕ → ℕ → Type 0
Narrowed w k o low high = (s : List ℕ) (b : Bump) (q : ℕ) → Beside w s b q → Between w k o low high

module _ (w : List ℕ) (k o : ℕ) where
  pub narrow_start : Narrowed w k o 0 (length w / 3)
  narrow_start s b q l = record { before-low = λ i h. absurd (omega arith); from_high = λ i h g. absurd (omega arith) }

  module _ (s : List ℕ) (b : Bump) (q : ℕ) (l : Beside w s b q) where
    size : length w ≡ 3 * length (leaf_list s b)
    size = ap length l.is ∙ words-length (leaf_list s b)

    rises : (i j : ℕ) → i < j → j < length w / 3 → Earlier (level_at w i) (offset_in w i) (level_at w j) (offset_in w j)
    rises i j h g = let n = size in rw l.is (ascending (leaf_list s b) i j (rising s l.read) h (omega arith))

    up_to : (i m : ℕ) → i ≤ m → m < length w / 3 → Earlier (level_at w m) (offset_in w m) k o → Earlier (level_at w i) (offset_in w i) k o
    up_to i m h g e = go (ltb i m) refl
      where
        go : (t : Bool) → ltb i m ≡ t → Earlier (level_at w i) (offset_in w i) k o
        go true f = less_on (rises i m (ltb-true i m f) g) e
        go false f = let x : i ≡ m = (let y = ltb-false i m f in omega arith) in rw x e

    from_on : (i m : ℕ) → m ≤ i → i < length w / 3 → Earlier k o (level_at w m) (offset_in w m) → Earlier k o (level_at w i) (offset_in w i)
    from_on i m h g e = go (ltb m i) refl
      where
        go : (t : Bool) → ltb m i ≡ t → Earlier k o (level_at w i) (offset_in w i)
        go true f = less_on e (rises m i (ltb-true m i f) g)
        go false f = let x : i ≡ m = (let y = ltb-false m i f in omega arith) in rw x e

  pub narrow-up : (low high m : ℕ) → Narrowed w k o low high → m < length w / 3 → side_of (level_at w m) (offset_in w m) k o ≡ Less → Narrowed w k o (m + 1) high
  narrow-up low high m n h e s b q l =
      record {
        before-low = λ i g. up_to s b q l i m (omega arith) h (side_less (level_at w m) (offset_in w m) k o e);
        from_high = (n s b q l).from_high;
      }

  pub narrow-down : (low high m : ℕ) → Narrowed w k o low high → m < length w / 3 → side_of (level_at w m) (offset_in w m) k o ≡ Greater → Narrowed w k o low m
  narrow-down low high m n h e s b q l =
      record {
        before-low = (n s b q l).before-low;
        from_high = λ i g j. from_on s b q l i m g j (side_greater (level_at w m) (offset_in w m) k o e);
      }

  pub narrow-here : (m : ℕ) → m < length w / 3 → side_of (level_at w m) (offset_in w m) k o ≡ Equal
      → (s : List ℕ) (b : Bump) (q : ℕ) → bump_whole s ≡ ok b q → w ≡ words_of (leaf_list s b) → Some (place_at w m) ≡ place_in s b k o
  narrow-here m h e s b q read is =
      let l : Beside w s b q = record { read = read; is = is } in
      let x = side_equal (level_at w m) (offset_in w m) k o e in
      let n = size s b q l in
      let found : Some (place_at (words_of (leaf_list s b)) m) ≡ find_row k o (leaf_list s b) =
      row-found k o (leaf_list s b) m (rising s read) (omega (arith, n)) (ap (λ (v : List ℕ). level_at v m) (sym is) ∙ x.0) (ap (λ (v : List ℕ). offset_in v m) (sym is) ∙ x.1) in
      ap (λ (v : List ℕ). Some (place_at v m)) is ∙ found ∙ list-search s read k o

  pub narrow-end : (low high : ℕ) → Narrowed w k o low high → high ≤ low
      → (s : List ℕ) (b : Bump) (q : ℕ) → bump_whole s ≡ ok b q → w ≡ words_of (leaf_list s b) → None ≡ place_in s b k o
  narrow-end low high n h s b q read is =
      let l : Beside w s b q = record { read = read; is = is } in
      sym (none_found k o (leaf_list s b) (λ i g e f. neither i g (ap (λ (v : List ℕ). level_at v i) is ∙ e) (ap (λ (v : List ℕ). offset_in v i) is ∙ f) (ltb i low) refl (n s b q l) (size s b q l))) ∙ list-search s read k o
    where
      neither : (i : ℕ) → i < length (leaf_list s b) → level_at w i ≡ k → offset_in w i ≡ o → (t : Bool) → ltb i low ≡ t → Between w k o low high → length w ≡ 3 * length (leaf_list s b) → ⊥
      neither i g e f true x y z = less_not (y.before-low i (ltb-true i low x)) e f
      neither i g e f false x y z = let u = ltb-false i low x in less_not (y.from_high i (omega arith) (omega arith)) (sym e) (sym f)

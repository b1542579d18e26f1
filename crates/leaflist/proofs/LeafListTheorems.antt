-- The list of leaves, of a BUMP that was read: the search over it finds the place of the leaf that the plain search finds; every leaf stands in it once,
-- and nothing else; it rises.
use Rattle.std.proofs.Common.{Option, Some, None}
use mathlib.Core.Path.{◌≡◌, refl, ap, sym, ◌∙◌}
use mathlib.Core.List.{List, [], ◌∷◌, ◌++◌, map}
use mathlib.Core.Bool.{Bool, true, false, ◌&&◌, ◌||◌, false≢true}
use Prim.Native.Nat.{ℕ, zero, suc, ◌+◌, ◌<◌}
use lib.ListN.{length, get_or, length-append, length-map}
use lib.Dec.{ltb, eqb}
use native.Mathlib.Omega.{arith}
use native.Mathlib.Nat.{zero-add}
use borrow.Author.Tests.{eq-eqb, lt-ltb, le-ltb, ltb-true, ltb-false, eqb-true}
use Rattle.format.specs.declared.leaf.Leaf.{Leaf}
use Rattle.format.proofs.Basics.{and-true}
use Rattle.format.specs.Parse.{pick, ok}
use Rattle.format.specs.Level.{total}
use Rattle.path.specs.Search.{lookup}
use Rattle.format.specs.Bump.{Bump, bump_whole}
use Rattle.format.proofs.BumpLaws.{bump-whole-told}
use Rattle.path.specs.Path.{leaf_in, bump_path, bump_path_of}
use Rattle.path.proofs.PathLaws.{bump-leaf_in, past-layers}
use Rattle.levels.specs.Places.{offset_at, level_leaves, next_level, leaf_there}
use Rattle.levels.specs.Order.{sorted, locate}
use Rattle.levels.proofs.OrderLaws.{Rises, rises_sorted, sorted-length}
use Rattle.levels.specs.Runs.{From}
use Rattle.leaflist.specs.LeafList.{Row, row, row_at, list_from, leaf_list, level_place, place_in, find_row}
use Rattle.leaflist.proofs.LeafListLaws.{Levels, levels-read, list-found}

-- ---- statements

-- a level and offset before another
unfoldable pub precedes : ℕ → ℕ → ℕ → ℕ → Bool
precedes k o j p = ltb k j || (eqb k j && ltb o p)

-- r comes before t
unfoldable pub before : Row → Row → Bool
before r t = precedes r.level r.offset t.level t.offset

unfoldable pub AllAfter : Row → List Row → Type 0
AllAfter r [] = Unit {0}
AllAfter r (t ∷ l) = (before r t ≡ true) × AllAfter r l

-- by level and offset
unfoldable pub RisingRows : List Row → Type 0
RisingRows [] = Unit {0}
RisingRows (r ∷ l) = AllAfter r l × RisingRows l

unfoldable pub same_row : Row → Row → Bool
same_row r t = (eqb t.level r.level && eqb t.offset r.offset) && eqb t.place r.place

unfoldable pub one : Bool → ℕ
one true = 1
one false = 0

-- how often a row stands in a list
unfoldable pub count : Row → List Row → ℕ
count r [] = 0
count r (t ∷ l) = one (same_row r t) + count r l

-- the leaf stands at this place
unfoldable pub is_at : Option ℕ → ℕ → Bool
is_at (Some p) q = eqb p q
is_at None q = false

-- ---- rising

module _ (s : List ℕ) where
  next_level_lem : (i j o p : ℕ) (r : Row) → r.level ≡ i → i < j → before r (row j o p) ≡ true
  unfolding before precedes
  next_level_lem i j o p r e h = rw (lt-ltb r.level j (omega arith))

  same-level : (i o p : ℕ) (r : Row) → r.level ≡ i → r.offset < o → before r (row i o p) ≡ true
  unfolding before precedes
  same-level i o p r e h = let f = lt-ltb r.offset o h in let g = eq-eqb r.level i e in let u = le-ltb r.level i (omega arith) in rw (f, g, u)

  after-higher : (r : Row) (n j at : ℕ) → r.level < j → AllAfter r (list_from s n j at)
  unfolding AllAfter list_from
  after-higher r zero j at h = tt
  after-higher r (suc n) j at h = rows (sorted (offset_at s) (level_leaves s at)) (after-higher r n (j + 1) (next_level s at) (omega arith))
    where
      rows : (ps : List ℕ) → AllAfter r (list_from s n (j + 1) (next_level s at)) → AllAfter r (map (row_at s j) ps ++ list_from s n (j + 1) (next_level s at))
      rows [] a = a
      rows (p ∷ ps) a = (next_level_lem r.level j (offset_at s p) p r refl h, rows ps a)

  after-rows : (r : Row) (i m : ℕ) (ps : List ℕ) (rest : List Row) → r.level ≡ i → r.offset < m → From (offset_at s) m ps → AllAfter r rest → AllAfter r (map (row_at s i) ps ++ rest)
  unfolding AllAfter From
  after-rows r i m [] rest e h f a = a
  after-rows r i m (p ∷ ps) rest e h f a = (same-level i (offset_at s p) p r e (let g = f.0 in omega arith), after-rows r i m ps rest e h f.1 a)

  rising-rows : (i n at : ℕ) (ps : List ℕ) → Rises (offset_at s) ps → RisingRows (list_from s n (i + 1) at) → RisingRows (map (row_at s i) ps ++ list_from s n (i + 1) at)
  unfolding RisingRows Rises
  rising-rows i n at [] f r = r
  rising-rows i n at (p ∷ ps) f r =
      (after-rows (row_at s i p) i (suc (offset_at s p)) ps (list_from s n (i + 1) at) refl (omega arith) f.0 (after-higher (row_at s i p) n (i + 1) at (omega arith)), rising-rows i n at ps f.1 r)

  rising_from : (n i at : ℕ) (ls : List (List Leaf)) → Levels s n at ls → RisingRows (list_from s n i at)
  unfolding RisingRows list_from Levels
  rising_from zero i at ls e = tt
  rising_from (suc n) i at ls e =
      rising-rows i n (next_level s at) (sorted (offset_at s) (level_leaves s at)) (rises_sorted (offset_at s) (level_leaves s at) e.4)
      (rw e.3.ends (rising_from n (i + 1) e.1 e.2 e.5))

  length_from : (n i at : ℕ) (ls : List (List Leaf)) → Levels s n at ls → length (list_from s n i at) ≡ total ls
  unfolding list_from total Levels
  length_from zero i at ls e = rw e
  length_from (suc n) i at ls e =
      let a = length-append (map (row_at s i) (sorted (offset_at s) (level_leaves s at))) (list_from s n (i + 1) (next_level s at)) in
      let b = length-map (sorted (offset_at s) (level_leaves s at)) (row_at s i) in
      let c = sorted-length (offset_at s) (level_leaves s at) in
      let d = e.3.size in
      let f = ap (λ (x : ℕ). length (list_from s n (i + 1) x)) e.3.ends in
      let g = length_from n (i + 1) e.1 e.2 e.5 in
      let h = ap total e.6 in
      omega (arith, a, b, c, d, f, g, h)

  -- what the plain search finds, level by level
  found_from : (n at : ℕ) (ls : List (List Leaf)) (j o : ℕ) → Levels s n at ls → j < n → leaf_there s (locate (offset_at s) o (level_leaves s (level_place s j at))) ≡ lookup o (get_or ls j [])
  unfolding level_place Levels
  found_from zero at ls j o e g = absurd (omega arith)
  found_from (suc n) at ls zero o e g = rw e.6 (e.3.found o)
  found_from (suc n) at ls (suc j) o e g =
      rw e.6 (ap (λ (x : ℕ). leaf_there s (locate (offset_at s) o (level_leaves s (level_place s j x)))) e.3.ends ∙ found_from n e.1 e.2 j o e.5 (omega arith))

-- ---- in a rising list a row stands once where the search finds it, and else not at all

both_at : (r t : Row) → before r t ≡ true → (eqb t.level r.level && eqb t.offset r.offset) ≡ false
unfolding before precedes
both_at r t b = go (eqb t.level r.level) refl (eqb t.offset r.offset) refl b
  where
    go : (x : Bool) → eqb t.level r.level ≡ x → (y : Bool) → eqb t.offset r.offset ≡ y → before r t ≡ true → (x && y) ≡ false
    go false e y f b = refl
    go true e false f b = refl
    go true e true f b =
        let g = eqb-true t.level r.level e in
        let h = eqb-true t.offset r.offset f in
        let u = le-ltb r.level t.level (omega arith) in
        let v = le-ltb r.offset t.offset (omega arith) in
        let w = eq-eqb r.level t.level (sym g) in
        absurd (false≢true (rw (u, v, w) at b))

-- a row like one before all others
none_like : (t r : Row) (l : List Row) → r.level ≡ t.level → r.offset ≡ t.offset → AllAfter t l → count r l ≡ 0
unfolding count AllAfter same_row one
none_like t r [] e f a = refl
none_like t r (u ∷ l) e f a =
    let g = both_at t u a.0 in
    let z : one (same_row r u) ≡ 0 = rw (e, f, g) in
    let w = none_like t r l e f a.1 in
    omega (arith, z, w)

pub count-found : (r : Row) (l : List Row) → RisingRows l → count r l ≡ one (is_at (find_row r.level r.offset l) r.place)
unfolding count find_row RisingRows same_row one is_at
count-found r [] a = refl
count-found r (t ∷ l) a = go (eqb t.level r.level && eqb t.offset r.offset) refl (count-found r l a.1)
  where
    go : (b : Bool) → (eqb t.level r.level && eqb t.offset r.offset) ≡ b → count r l ≡ one (is_at (find_row r.level r.offset l) r.place)
        → one (b && eqb t.place r.place) + count r l ≡ one (is_at (pick b (Some t.place) (find_row r.level r.offset l)) r.place)
    go true e i =
        let f = and-true (eqb t.level r.level) (eqb t.offset r.offset) e in
        let g = alike (eqb-true t.level r.level f.0) (eqb-true t.offset r.offset f.1) in
        omega (arith, g)
      where
        alike : t.level ≡ r.level → t.offset ≡ r.offset → count r l ≡ 0
        alike g h = none_like t r l (sym g) (sym h) a.0
    go false e i = omega (arith, i)

-- ---- of a BUMP that was read

module _ (s : List ℕ) {b : Bump} {q : ℕ} (e : bump_whole s ≡ ok b q) where
  pub read : Levels s b.height b.start b.levels
  read = levels-read s b.height b.height 0 b.start (bump-whole-told s e).levels

  -- the place that `place_in` gives is that of the leaf that the plain search finds; it gives none when that finds none
  pub plain-search : (k o : ℕ) → leaf_there s (place_in s b k o) ≡ leaf_in s (bump_path s b) k o
  unfolding place_in leaf_there bump_path_of
  plain-search k o = go (ltb k b.height) refl
    where
      go : (t : Bool) → ltb k b.height ≡ t → leaf_there s (pick t (locate (offset_at s) o (level_leaves s (level_place s k b.start))) None) ≡ leaf_in s (bump_path s b) k o
      go true f = let h = ltb-true k b.height f in found_from s b.height b.start b.levels k o read h ∙ sym (bump-leaf_in s b (bump-whole-told s e) k o h)
      go false f = let h = ltb-false k b.height f in sym (past-layers s (bump_path s b) k o (omega arith))

  -- the search over the list
  pub list-search : (k o : ℕ) → find_row k o (leaf_list s b) ≡ place_in s b k o
  unfolding place_in
  list-search k o = list-found s b.height 0 b.start k k o (sym (zero-add k))

  -- by level and offset
  pub rising : RisingRows (leaf_list s b)
  rising = rising_from s b.height 0 b.start b.levels read

  -- every leaf stands in the list once, and nothing else does
  pub listed-once : (r : Row) → count r (leaf_list s b) ≡ one (is_at (place_in s b r.level r.offset) r.place)
  listed-once r = count-found r (leaf_list s b) rising ∙ ap (λ (p : Option ℕ). one (is_at p r.place)) (list-search r.level r.offset)

  pub listed-all : length (leaf_list s b) ≡ total b.levels
  listed-all = length_from s b.height 0 b.start b.levels read

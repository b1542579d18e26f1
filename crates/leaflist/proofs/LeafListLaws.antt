-- Laws of the list of leaves: its levels by their bytes, one by one.
use Rattle.std.proofs.Common.{Option, Some, None}
use mathlib.Core.Path.{◌≡◌, refl, ap, sym, ◌∙◌}
use mathlib.Core.List.{List, [], ◌∷◌, ◌++◌, map}
use mathlib.Core.Bool.{Bool, true, false}
use Prim.Native.Nat.{ℕ, zero, suc, ◌+◌, ◌-◌, ◌^◌, ◌<◌, ◌≤◌}
use lib.Dec.{ltb, eqb}
use native.Mathlib.Omega.{arith}
use borrow.Author.Tests.{eq-eqb, ne_eqb, lt-ltb, le-ltb, ltb-true, ltb-false}
use Rattle.format.specs.declared.level.Layout.{Layout}
use Rattle.format.specs.declared.leaf.Leaf.{Leaf}
use Rattle.format.specs.Parse.{pick, many, ok}
use Rattle.format.proofs.ParseLaws.{many-told}
use Rattle.format.specs.Field.{varint}
use Rattle.format.specs.Refusals.{MAX_LEAVES}
use Rattle.format.specs.Level.{level_of_turn, level_in_turn, next_turn}
use Rattle.path.proofs.UncheckedLaws.{level_unchecked}
use Rattle.levels.specs.Places.{offset_at, level_leaves, next_level}
use Rattle.levels.specs.Order.{sorted, locate}
use Rattle.levels.proofs.OrderLaws.{Distinct, locate-sorted}
use Rattle.leaflist.specs.LeafList.{Row, row_at, list_from, level_place, find_row}
use Rattle.levels.proofs.PlacesLaws.{Level, level-distinct, level-few, level-read}

module _ (s : List ℕ) where
  -- n levels that were read, the first of them at a place
  unfoldable pub Levels : ℕ → ℕ → List (List Leaf) → Type 0
  Levels zero at ls = ls ≡ []
  Levels (suc n) at ls = (l : List Leaf) × (q : ℕ) × (rest : List (List Leaf)) × Level s at l q × Distinct (offset_at s) (level_leaves s at) × Levels n q rest × (ls ≡ l ∷ rest)
      × ((m : ℕ) × (first : ℕ) × (varint s at ≡ ok m first) × (m ≤ MAX_LEAVES))

  pub levels-read : (h n k at : ℕ) {ls : List (List Leaf)} {q : ℕ} → many (level_in_turn Layout.Bump h) next_turn n k s at ≡ ok ls q → Levels n at ls
  unfolding many level_of_turn Levels
  levels-read h zero k at {ls} e = cc
  levels-read h (suc n) k at {ls} e =
      let x = many-told (level_in_turn Layout.Bump h) next_turn n k s at e in
      (x.0, x.1, x.2, level-read s at (level_unchecked Layout.Bump (2 ^ (h - k)) k s at x.3), level-distinct s (2 ^ (h - k)) k at x.3, levels-read h n (k + 1) x.1 x.4, sym x.5, level-few s (2 ^ (h - k)) k at x.3)

  -- ---- the search among rows

  unfoldable pub or_place : Option ℕ → Option ℕ → Option ℕ
  or_place (Some p) q = Some p
  or_place None q = q

  rows-here : (k o : ℕ) (ps : List ℕ) (rest : List Row) → find_row k o (map (row_at s k) ps ++ rest) ≡ or_place (locate (offset_at s) o ps) (find_row k o rest)
  unfolding find_row locate or_place
  rows-here k o [] rest = refl
  rows-here k o (p ∷ ps) rest = rw (eq-eqb k k refl) (go (eqb (offset_at s p) o) (rows-here k o ps rest))
    where
      go : (b : Bool) → find_row k o (map (row_at s k) ps ++ rest) ≡ or_place (locate (offset_at s) o ps) (find_row k o rest)
          → pick b (Some p) (find_row k o (map (row_at s k) ps ++ rest)) ≡ or_place (pick b (Some p) (locate (offset_at s) o ps)) (find_row k o rest)
      go true r = refl
      go false r = r

  rows_other : (i k o : ℕ) (ps : List ℕ) (rest : List Row) → (i ≡ k → ⊥) → find_row k o (map (row_at s i) ps ++ rest) ≡ find_row k o rest
  unfolding find_row
  rows_other i k o [] rest h = refl
  rows_other i k o (p ∷ ps) rest h = rw (ne_eqb i k h) (rows_other i k o ps rest h)

  below : (n i at k o : ℕ) → k < i → find_row k o (list_from s n i at) ≡ None
  unfolding find_row list_from
  below zero i at k o h = refl
  below (suc n) i at k o h = rows_other i k o (sorted (offset_at s) (level_leaves s at)) (list_from s n (i + 1) (next_level s at)) (λ e. omega arith) ∙ below n (i + 1) (next_level s at) k o (omega arith)

  or_nowhere : (p : Option ℕ) → or_place p None ≡ p
  unfolding or_place
  or_nowhere (Some p) = refl
  or_nowhere None = refl

  pub list-found : (n i at j k o : ℕ) → k ≡ i + j → find_row k o (list_from s n i at) ≡ pick (ltb j n) (locate (offset_at s) o (level_leaves s (level_place s j at))) None
  unfolding find_row list_from level_place
  list-found zero i at j k o e = rw (le-ltb j zero (omega arith)) refl
  list-found (suc n) i at zero k o e =
      let same : i ≡ k = omega arith in
      let low : k < i + 1 = omega arith in
      rw (lt-ltb zero (suc n) (omega arith), same)
      (rows-here k o (sorted (offset_at s) (level_leaves s at)) (list_from s n (k + 1) (next_level s at))
      ∙ ap (or_place (locate (offset_at s) o (sorted (offset_at s) (level_leaves s at)))) (below n (k + 1) (next_level s at) k o (omega arith))
      ∙ or_nowhere (locate (offset_at s) o (sorted (offset_at s) (level_leaves s at)))
      ∙ locate-sorted (offset_at s) o (level_leaves s at))
  list-found (suc n) i at (suc j) k o e =
      rows_other i k o (sorted (offset_at s) (level_leaves s at)) (list_from s n (i + 1) (next_level s at)) (λ g. omega arith)
      ∙ list-found n (i + 1) (next_level s at) j k o (omega arith)
      ∙ ap (λ (b : Bool). pick b (locate (offset_at s) o (level_leaves s (level_place s j (next_level s at)))) None) (one_down j n)
    where
      one_down : (j n : ℕ) → ltb j n ≡ ltb (suc j) (suc n)
      one_down j n = down (ltb j n) refl
        where
          down : (b : Bool) → ltb j n ≡ b → b ≡ ltb (suc j) (suc n)
          down true e = sym (lt-ltb (suc j) (suc n) (let h = ltb-true j n e in omega arith))
          down false e = sym (le-ltb (suc j) (suc n) (let h = ltb-false j n e in omega arith))

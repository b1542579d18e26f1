-- A climb in the tree that meets no twin comes to the list's root.
use mathlib.Core.Path.{◌≡◌, refl, sym, ap, ap₂, ◌∙◌}
use mathlib.Core.Bool.{Bool, true, false, false≢true}
use mathlib.Core.List.{List, ◌++◌}
use Prim.Native.Nat.{ℕ, zero, suc, ◌+◌, ◌-◌, ◌^◌, ◌/◌, ◌%◌, ◌<◌}
use lib.ListN.{length}
use lib.Dec.{ltb, eqb}
use lib.Pow.{shr-shr}
use native.Mathlib.Omega.{arith}
use native.Mathlib.Nat.{add-zero, zero-add, div-one, div-eq_of_lt}
use native.Mathlib.Numerals.{add-one}
use borrow.Author.Tests.{lt-ltb, ltb-true, ltb-false, eqb-true, eqb-false, eq-eqb, ne_eqb}
use Rattle.hash.specs.Sha256.{sha256d}
use Rattle.format.specs.Bytes.{same}
use Rattle.format.specs.Parse.{pick}
use Rattle.format.specs.Refusals.{TWIN}
use Rattle.spv.specs.Result.{Result, accepted, refused, at_sibling}
use Rattle.spv.specs.Climb.{value, copied, odd, sibling_position, Step, joins, fails, joined, step, ascend, end_of, ascend_by, end_by}
use Rattle.spv.proofs.ClimbLaws.{joined-even, joined-odd, joined_twin, sibling-odd, sibling-even, ascend-joins, ascend-fails}
use Rattle.block.specs.Tree.{layer, size, node, height, root, tree_siblings, tree_climb, reaches}
use Rattle.block.proofs.TreeLaws.{above-pair, above_last, size-suc, height-holds}

module _ (ids : List (List ℕ)) where
  -- at an odd position the node on the left is the same
  unfoldable pub twin_at : ℕ → ℕ → Bool
  twin_at k j = pick (eqb (j % 2) 1) (same (node ids k (j - 1)) (node ids k j)) false

  -- what one layer of a climb does: a twin, or the node above
  data Turn (k j : ℕ) (s : Step) : Type 0 where
    twin : twin_at k j ≡ true → s ≡ fails TWIN → Turn k j s
    rises : twin_at k j ≡ false → (a b : List ℕ) → s ≡ joins a b → sha256d (a ++ b) ≡ node ids (suc k) (j / 2) → Turn k j s

  turn : (k j : ℕ) → j < size ids k → Turn k j (step (tree_siblings ids k (sibling_position j)) (odd j) (node ids k j))
  unfolding step tree_siblings layer twin_at
  turn k j h = go (eqb (j % 2) 1) refl
    where
      odds : (t : Bool) → same (node ids k (j - 1)) (node ids k j) ≡ t → j % 2 ≡ 1 → Turn k j (joined true (node ids k j) (node ids k (j - 1)))
      odds true e o = twin (rw (eq-eqb (j % 2) 1 o) e) (joined_twin _ _ e)
      odds false e o =
          let f : suc (j - 1) ≡ j = omega arith in
          rises (rw (eq-eqb (j % 2) 1 o) e) (node ids k (j - 1)) (node ids k j) (joined-odd _ _ e)
          (ap (λ (n : ℕ). sha256d (node ids k (j - 1) ++ node ids k n)) (sym f) ∙ sym (above-pair (layer ids k) (j / 2) (j - 1) (omega arith) (omega arith)))

      evens : (t : Bool) → ltb (j + 1) (size ids k) ≡ t → (j % 2 ≡ 1 → ⊥) → Turn k j (step (pick t (value (node ids k (j + 1))) copied) false (node ids k j))
      evens true e o =
          rises (rw (ne_eqb (j % 2) 1 o)) (node ids k j) (node ids k (j + 1)) (joined-even _ _)
          (rw (add-one j) (sym (above-pair (layer ids k) (j / 2) j (omega arith) (let l = ltb-true (j + 1) (size ids k) e in omega arith))))
      evens false e o =
          rises (rw (ne_eqb (j % 2) 1 o)) (node ids k j) (node ids k j) (joined-even _ _)
          (sym (above_last (layer ids k) (j / 2) j (omega arith) (let l = ltb-false (j + 1) (size ids k) e in omega arith)))

      go : (t : Bool) → eqb (j % 2) 1 ≡ t → Turn k j (step (tree_siblings ids k (sibling_position j)) t (node ids k j))
      go true e =
          let o = eqb-true (j % 2) 1 e in
          rw (sibling-odd j o, lt-ltb (j - 1) (size ids k) (omega arith)) (odds (same (node ids k (j - 1)) (node ids k j)) refl o)
      go false e =
          let o = eqb-false (j % 2) 1 e in
          rw (sibling-even j o) (evens (ltb (j + 1) (size ids k)) refl o)

  -- where a climb ends that has n layers to go from position j of layer k
  unfoldable pub end_from : ℕ → ℕ → ℕ → Result (List ℕ)
  end_from k n j = end_of (node ids k j) (ascend (tree_siblings ids) k n j (node ids k j))

  pub from_end : (k j : ℕ) → end_from k 0 j ≡ accepted (node ids k j)
  unfolding end_from ascend_by end_by
  from_end k j = refl

  module _ (k n j : ℕ) (h : j < size ids k) where
    pub from_twin : twin_at k j ≡ true → end_from k (suc n) j ≡ refused (at_sibling TWIN k (sibling_position j))
    unfolding end_from end_by
    from_twin e = go (turn k j h)
      where
        go : Turn k j (step (tree_siblings ids k (sibling_position j)) (odd j) (node ids k j)) → end_from k (suc n) j ≡ refused (at_sibling TWIN k (sibling_position j))
        go (twin w f) = rw (ascend-fails (tree_siblings ids) k n j (node ids k j) TWIN f)
        go (rises w a b f g) = absurd (let z : ◌≡◌ {A = ℕ} 0 1 = cc in omega arith)

    pub from_on : twin_at k j ≡ false → end_from k (suc n) j ≡ end_from (suc k) n (j / 2)
    unfolding end_from end_by
    from_on e = go (turn k j h)
      where
        go : Turn k j (step (tree_siblings ids k (sibling_position j)) (odd j) (node ids k j)) → end_from k (suc n) j ≡ end_from (suc k) n (j / 2)
        go (twin w f) = absurd (let z : ◌≡◌ {A = ℕ} 0 1 = cc in omega arith)
        go (rises w a b f g) =
            ap (end_of (node ids k j)) (ascend-joins (tree_siblings ids) k n j (node ids k j) a b f)
            ∙ ap (λ (d : List ℕ). end_of d (ascend (tree_siblings ids) (suc k) n (j / 2) d)) g

  pub from_all : (i : ℕ) → end_from 0 (height ids) i ≡ tree_climb ids i
  unfolding end_from tree_climb
  from_all i = refl

  climbs : (n k j : ℕ) → j < size ids k → reaches (end_from k n j) ≡ true → end_from k n j ≡ accepted (node ids (k + n) (j / 2 ^ n))
  unfolding reaches
  climbs zero k j h e = from_end k j ∙ ap accepted (ap₂ (node ids) (sym (add-zero k)) (sym (div-one j)))
  climbs (suc n) k j h e = go (twin_at k j) refl (climbs n (suc k) (j / 2) (let f = size-suc ids k in omega arith))
    where
      place : node ids (suc k + n) (j / 2 / 2 ^ n) ≡ node ids (k + suc n) (j / 2 ^ suc n)
      place = ap₂ (node ids) (omega arith) (shr-shr j 1 n ∙ ap (λ (m : ℕ). j / 2 ^ m) (omega arith))

      go : (t : Bool) → twin_at k j ≡ t → (reaches (end_from (suc k) n (j / 2)) ≡ true → end_from (suc k) n (j / 2) ≡ accepted (node ids (suc k + n) (j / 2 / 2 ^ n)))
          → end_from k (suc n) j ≡ accepted (node ids (k + suc n) (j / 2 ^ suc n))
      go true w ih = absurd (false≢true (ap reaches (sym (from_twin k n j h w)) ∙ e))
      go false w ih = let s = from_on k n j h w in s ∙ ih (ap reaches (sym s) ∙ e) ∙ ap accepted place

  -- from a position of the list, over all layers
  pub climb_roots : (i : ℕ) → i < length ids → reaches (tree_climb ids i) ≡ true → tree_climb ids i ≡ accepted (root ids)
  unfolding root layer
  climb_roots i h e =
      sym (from_all i) ∙ climbs (height ids) 0 i h (ap reaches (from_all i) ∙ e)
      ∙ ap accepted (ap₂ (node ids) (zero-add (height ids)) (div-eq_of_lt (let g = height-holds (length ids) in omega arith)))

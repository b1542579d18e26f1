-- The values of the siblings that chosen climbs need, by the leaves written (02, Items 1 and 3): a sibling that is left out lies over a chosen position, so that
-- both of its children are written or worked out in turn.
use mathlib.Core.Path.{◌≡◌, refl, sym, ap, ap₂, ◌∙◌}
use mathlib.Core.Bool.{Bool, true, false, ◌&&◌, ◌||◌, not}
use mathlib.Core.List.{List, [], ◌++◌}
use Rattle.std.specs.Prelude.{Option, Some, None}
use Rattle.format.specs.declared.leaf.Kind.{Kind}
use Prim.Native.Nat.{ℕ, zero, suc, ◌+◌, ◌-◌, ◌*◌, ◌^◌, ◌/◌, ◌%◌, ◌<◌}
use lib.ListN.{length, get_or}
use lib.Dec.{ltb, eqb}
use lib.Pow.{shr-shr, shr_lt}
use native.Mathlib.Omega.{arith}
use native.Mathlib.Nat.{pow-suc, zero-lt-suc}
use native.Mathlib.Numerals.{add-one}
use borrow.Author.Tests.{eqb-true, eqb-false, ne_eqb, lt-ltb, ltb-true, ltb-false}
use Rattle.format.proofs.Basics.{or_true, or_comm}
use Rattle.hash.specs.Sha256.{sha256d}
use Rattle.format.specs.declared.leaf.Kind.TheVariants.{Plain, Copy, Client}
use Rattle.format.specs.Parse.{pick}
use Rattle.format.specs.Level.{holds}
use Rattle.path.specs.Search.{lookup}
use Rattle.spv.specs.Climb.{Sibling, value, copied, absent, Siblings, sibling_position}
use Rattle.spv.proofs.ClimbLaws.{sibling-odd, sibling-even}
use Rattle.spv.specs.Values.{join_both, join_of, value_of, worked_out}
use Rattle.spv.proofs.ValuesLaws.{value_written, value-copied, value-absent}
use Rattle.spv.specs.Siblings.{written, sibling, written_by, find_in, level_siblings}
use Rattle.encoding.specs.BumpBytes.{Carried, plain, copy, client, carried_of}
use Rattle.block.specs.Tree.{layer, size, node, height, tree_siblings}
use Rattle.block.proofs.TreeLaws.{height-holds, above-pair, above_last, size-suc}
use Rattle.block.specs.BlockBump.{under, left_out, sibling_at, asked, found_as}
use Rattle.block.proofs.BlockFit.{Sizes, under-told, under-chosen, under-size}
use Rattle.block.proofs.BlockMeets.{ReadBack, leaf_back}

pub sibling-twice : (j : ℕ) → sibling_position (sibling_position j) ≡ j
sibling-twice j = go (eqb (j % 2) 1) refl
  where
    go : (t : Bool) → eqb (j % 2) 1 ≡ t → sibling_position (sibling_position j) ≡ j
    go true e = let o = eqb-true (j % 2) 1 e in rw (sibling-odd j o, sibling-even (j - 1) (λ q. omega arith)) (omega arith)
    go false e = let o = eqb-false (j % 2) 1 e in rw (sibling-even j o, sibling-odd (j + 1) (omega arith)) (omega arith)

-- a sibling lies in its level
pub sibling-below : (j n : ℕ) → j < 2 ^ suc n → sibling_position j < 2 ^ suc n
sibling-below j n b = go (eqb (j % 2) 1) refl
  where
    go : (t : Bool) → eqb (j % 2) 1 ≡ t → sibling_position j < 2 ^ suc n
    go true e = rw (sibling-odd j (eqb-true (j % 2) 1 e)) (omega arith)
    go false e = rw (sibling-even j (eqb-false (j % 2) 1 e)) (let o = eqb-false (j % 2) 1 e in let p = pow-suc 2 n in omega arith)

-- what a leaf asked for gives a climb
unfoldable pub as_sibling : Option Carried → Sibling
as_sibling None = absent
as_sibling (Some (plain h)) = value h
as_sibling (Some copy) = copied
as_sibling (Some (client h)) = value h

pub found-sibling : (s : List ℕ) (x : Option Kind) → sibling s x ≡ as_sibling (found_as s x)
unfolding found_as sibling written as_sibling carried_of
found-sibling s (Some (Plain p)) = refl
found-sibling s (Some Copy) = refl
found-sibling s (Some (Client p)) = refl
found-sibling s None = refl

-- a chosen climb passes the node or its sibling
unfoldable near : List ℕ → ℕ → ℕ → Bool
near chosen k o = under chosen k o || under chosen k (sibling_position o)

-- a climb that passes a node passes one of its children, so it is near both
module _ (chosen : List ℕ) (k o : ℕ) (u : under chosen (suc k) o ≡ true) where
  child : (under chosen k (2 * o) || under chosen k (2 * o + 1)) ≡ true
  child = go (eqb (i / 2 ^ k % 2) 1) refl
    where
      t : (x : ℕ) × (holds x chosen ≡ true) × (x / 2 ^ suc k ≡ o)
      t = under-told chosen (suc k) o u

      i : ℕ
      i = t.0

      half : i / 2 ^ k / 2 ≡ o
      half = shr-shr i k 1 ∙ ap (λ (n : ℕ). i / 2 ^ n) (add-one k) ∙ t.2

      here : under chosen k (i / 2 ^ k) ≡ true
      here = under-chosen chosen i k t.1

      go : (b : Bool) → eqb (i / 2 ^ k % 2) 1 ≡ b → (under chosen k (2 * o) || under chosen k (2 * o + 1)) ≡ true
      go true e =
          let n : i / 2 ^ k ≡ 2 * o + 1 = (let h = half in let m = eqb-true (i / 2 ^ k % 2) 1 e in omega arith) in
          rw (rw n at here) (or_true (under chosen k (2 * o)))
      go false e =
          let n : i / 2 ^ k ≡ 2 * o = (let h = half in let m = eqb-false (i / 2 ^ k % 2) 1 e in omega arith) in
          rw (rw n at here)

  near_left : near chosen k (2 * o) ≡ true
  unfolding near
  near_left = rw (sibling-even (2 * o) (λ q. omega arith)) child

  near_right : near chosen k (2 * o + 1) ≡ true
  unfolding near
  near_right =
      let e : sibling_position (2 * o + 1) ≡ 2 * o = sibling-odd (2 * o + 1) (omega arith) ∙ omega arith in
      rw e (or_comm (under chosen k (2 * o + 1)) (under chosen k (2 * o)) ∙ child)

-- ---- what is asked for near a chosen climb

module _ (ids : List (List ℕ)) (chosen : List ℕ) (o : ℕ) where
  pub asked-client : under chosen 0 o ≡ true → asked ids chosen 0 o ≡ Some (client (node ids 0 o))
  unfolding asked
  asked-client u = rw u

  -- over a chosen position it is left out
  pub asked_over : (k : ℕ) → under chosen (suc k) o ≡ true → asked ids chosen (suc k) o ≡ None
  unfolding asked left_out
  asked_over k u = rw (ne_eqb (suc k) 0 (λ q. omega arith), u, lt-ltb 0 (suc k) (zero-lt-suc k)) (go (under chosen (suc k) (sibling_position o)))
    where
      go : (b : Bool) → pick (b && false) (Some (sibling_at ids (suc k) o)) None ≡ None
      go true = refl
      go false = refl

  pub asked-sibling : (k : ℕ) → under chosen k o ≡ false → under chosen k (sibling_position o) ≡ true → asked ids chosen k o ≡ Some (sibling_at ids k o)
  unfolding asked left_out
  asked-sibling k u v = go (eqb k 0) refl (ltb 0 k)
    where
      at : (b : Bool) → pick (true && not (b && false)) (Some (sibling_at ids k o)) None ≡ Some (sibling_at ids k o)
      at true = refl
      at false = refl

      go : (a : Bool) → eqb k 0 ≡ a → (b : Bool) → pick (a && under chosen 0 o) (Some (client (node ids 0 o))) (pick (under chosen k (sibling_position o) && not (b && under chosen k o)) (Some (sibling_at ids k o)) None) ≡ Some (sibling_at ids k o)
      go true e b = let z : under chosen 0 o ≡ false = rw (eqb-true k 0 e) at u in rw (z, u, v) (at b)
      go false e b = rw (u, v) (at b)

-- ---- the values

module _ {block : ℕ} {ids : List (List ℕ)} {chosen s : List ℕ} (g : Sizes block ids chosen) (r : ReadBack block ids chosen s) where
  abbrev w : Siblings
  w = written_by s (find_in r.bump.levels)

  stated : (k o : ℕ) → k < height ids → o < 2 ^ (height ids - k) → w k o ≡ as_sibling (asked ids chosen k o)
  stated k o b l = found-sibling s (lookup o (get_or r.bump.levels k [])) ∙ ap as_sibling (leaf_back r k o b l)

  under_in : (k o : ℕ) → k < height ids → under chosen k o ≡ true → o < 2 ^ (height ids - k)
  under_in k o b u =
      let t = under-told chosen k o u in
      let back : height ids - k + k ≡ height ids = omega arith in
      let below : t.0 < 2 ^ height ids = (let a = g.below t.0 t.1 in let l = height-holds (length ids) in omega arith) in
      rw (← t.2) (shr_lt (height ids - k) k (rw back below))

  pub sibling_in : (k o : ℕ) → k < height ids → under chosen k (sibling_position o) ≡ true → o < 2 ^ (height ids - k)
  sibling_in k o b u =
      let up : suc (height ids - k - 1) ≡ height ids - k = omega arith in
      rw (← up) (rw (sibling-twice o) at (sibling-below (sibling_position o) (height ids - k - 1) (rw up (under_in k (sibling_position o) b u))))

  -- a value of the tree's: its node, and past the end of a layer that of the copy
  abbrev InTree : ℕ → ℕ → Sibling → Type 0
  InTree k o c = value_of w c k o ≡ pick (ltb o (size ids k)) (value (node ids k o)) c

  -- a node that a chosen climb passes is one of the tree
  in_tree : (k o : ℕ) (c : Sibling) → under chosen k o ≡ true → value_of w c k o ≡ value (node ids k o) → InTree k o c
  in_tree k o c u e = rw (lt-ltb o (size ids k) (under-size g k o u)) e

  -- beside a chosen climb that doesn't pass it a node is written
  value-sibling : (k o : ℕ) (c : Sibling) → k < height ids → under chosen k o ≡ false → under chosen k (sibling_position o) ≡ true → InTree k o c
  unfolding as_sibling sibling_at
  value-sibling k o c b u v = go (ltb o (size ids k)) (stated k o b (sibling_in k o b v) ∙ ap as_sibling (asked-sibling ids chosen o k u v))
    where
      go : (t : Bool) → w k o ≡ as_sibling (Some (pick t (plain (node ids k o)) copy)) → value_of w c k o ≡ pick t (value (node ids k o)) c
      go true e = value_written w c k o (node ids k o) e
      go false e = value-copied w c k o e

  -- two children of the tree's are joined to the node above
  joins-up : (k o : ℕ) → o < size ids (suc k) → InTree k (2 * o) absent → ((c : Sibling) → InTree k (2 * o + 1) c) → join_of w (suc k) o ≡ value (node ids (suc k) o)
  unfolding join_of value_of join_both layer
  joins-up k o l x y = go (ltb (2 * o + 1) (size ids k)) refl
    where
      left : value_of w absent k (2 * o) ≡ value (node ids k (2 * o))
      left = x ∙ rw (lt-ltb (2 * o) (size ids k) (let e = size-suc ids k in omega arith))

      go : (t : Bool) → ltb (2 * o + 1) (size ids k) ≡ t → join_both (value_of w absent k (2 * o)) (value_of w (value_of w absent k (2 * o)) k (2 * o + 1)) ≡ value (node ids (suc k) o)
      go true e =
          let right : value_of w (value_of w absent k (2 * o)) k (2 * o + 1) ≡ value (node ids k (2 * o + 1)) = y (value_of w absent k (2 * o)) ∙ rw e in
          ap₂ join_both left right
          ∙ ap (λ (n : ℕ). value (sha256d (node ids k (2 * o) ++ node ids k n))) (add-one (2 * o))
          ∙ ap value (sym (above-pair (layer ids k) o (2 * o) (omega arith) (let m = ltb-true (2 * o + 1) (size ids k) e in omega arith)))
      go false e =
          let right : value_of w (value_of w absent k (2 * o)) k (2 * o + 1) ≡ value (node ids k (2 * o)) = y (value_of w absent k (2 * o)) ∙ rw e left in
          ap₂ join_both left right
          ∙ ap value (sym (above_last (layer ids k) o (2 * o) (omega arith) (let m = ltb-false (2 * o + 1) (size ids k) e in let n = size-suc ids k in omega arith)))

  -- near a chosen climb every value is the tree's
  value_near : (k o : ℕ) (c : Sibling) → k < height ids → near chosen k o ≡ true → InTree k o c
  unfolding near as_sibling
  value_near zero o c b n = go (under chosen 0 o) refl n
    where
      go : (t : Bool) → under chosen 0 o ≡ t → (t || under chosen 0 (sibling_position o)) ≡ true → InTree 0 o c
      go true u m = in_tree 0 o c u (value_written w c 0 o (node ids 0 o) (stated 0 o b (under_in 0 o b u) ∙ ap as_sibling (asked-client ids chosen o u)))
      go false u m = value-sibling 0 o c b u m
  value_near (suc k) o c b n = go (under chosen (suc k) o) refl n (λ q d e. value_near k q d (omega arith) e)
    where
      go : (t : Bool) → under chosen (suc k) o ≡ t → (t || under chosen (suc k) (sibling_position o)) ≡ true → ((q : ℕ) (d : Sibling) → near chosen k q ≡ true → InTree k q d) → InTree (suc k) o c
      go true u m f =
          in_tree (suc k) o c u
          (value-absent w c (suc k) o (stated (suc k) o b (under_in (suc k) o b u) ∙ ap as_sibling (asked_over ids chosen o k u))
          ∙ joins-up k o (under-size g (suc k) o u) (f (2 * o) absent (near_left chosen k o u)) (λ d. f (2 * o + 1) d (near_right chosen k o u)))
      go false u m f = value-sibling (suc k) o c b u m

  -- what the climb takes beside a chosen climb's node is the tree's
  pub needed_value : (k q : ℕ) → k < height ids → under chosen k (sibling_position q) ≡ true → level_siblings s r.bump.levels k q ≡ tree_siblings ids k q
  unfolding level_siblings worked_out tree_siblings near
  needed_value k q b u = value_near k q copied b (rw u (or_true (under chosen k q)))

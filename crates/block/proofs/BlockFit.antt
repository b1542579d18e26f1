-- The BUMP of a list within the sizes is one that the layout can have.
use mathlib.Core.Path.{◌≡◌, refl, sym, ap, ◌∙◌}
use mathlib.Core.Bool.{Bool, true, false, ◌&&◌, ◌||◌, not}
use mathlib.Core.List.{List, [], ◌∷◌, ◌++◌}
use Rattle.std.specs.Prelude.{Option, Some, None}
use Prim.Native.Nat.{ℕ, zero, suc, ◌+◌, ◌-◌, ◌^◌, ◌/◌, ◌%◌, ◌≤◌, ◌<◌}
use lib.ListN.{length}
use lib.Dec.{ltb, eqb}
use lib.Pow.{pow_mono}
use native.Mathlib.Omega.{arith}
use borrow.Author.Tests.{ltb-true, ltb-false, eqb-true, eqb-false, eq-eqb, ne_eqb}
use Rattle.format.proofs.Basics.{or_true}
use Rattle.format.specs.Parse.{pick}
use Rattle.format.specs.Level.{holds}
use Rattle.format.proofs.LevelLaws.{holds_snoc}
use Rattle.format.specs.Refusals.{MAX_BLOCK}
use Rattle.spv.specs.Climb.{sibling_position}
use Rattle.spv.proofs.ClimbLaws.{sibling-even}
use Rattle.encoding.specs.Encode.{Fits}
use Rattle.encoding.specs.BumpBytes.{Carried, plain, copy, client, CarriedFit, EntryFit, and_entry, LevelFit, next_level, ContentFit}
use Rattle.block.specs.Tree.{size, node, height}
use Rattle.block.proofs.TreeLaws.{height-holds, height-least, stays, Hashes, layer-hashes}
use Rattle.block.specs.BlockBump.{Below, under, left_out, sibling_at, asked, rising, levels_for, block_bump, all_below}
use Rattle.block.proofs.RisingLaws.{rising_none, rising-some}

-- a list and positions within the sizes
pub record Sizes (block : ℕ) (ids : List (List ℕ)) (chosen : List ℕ) : Type 0 where
  pub block_fits : block ≤ MAX_BLOCK
  pub two : 2 ≤ length ids
  pub few : length ids ≤ 1024
  pub hashes : Hashes ids
  pub below : Below ids chosen

-- ---- what `under` says

pub under-told : (chosen : List ℕ) (k j : ℕ) → under chosen k j ≡ true → (i : ℕ) × (holds i chosen ≡ true) × (i / 2 ^ k ≡ j)
unfolding under holds
under-told [] k j e = absurd (let z : ◌≡◌ {A = ℕ} 0 1 = cc in omega arith)
under-told (i ∷ chosen) k j e = go (eqb (i / 2 ^ k) j) refl e (λ f. under-told chosen k j f)
  where
    go : (t : Bool) → eqb (i / 2 ^ k) j ≡ t → (t || under chosen k j) ≡ true → (under chosen k j ≡ true → (x : ℕ) × (holds x chosen ≡ true) × (x / 2 ^ k ≡ j))
        → (x : ℕ) × (holds x (i ∷ chosen) ≡ true) × (x / 2 ^ k ≡ j)
    go true h f r = (i, rw (eq-eqb i i refl), eqb-true _ _ h)
    go false h f r = let y = r f in (y.0, rw y.1 (or_true (eqb y.0 i)), y.2)

pub under-chosen : (chosen : List ℕ) (i k : ℕ) → holds i chosen ≡ true → under chosen k (i / 2 ^ k) ≡ true
unfolding under holds
under-chosen [] i k e = absurd (let z : ◌≡◌ {A = ℕ} 0 1 = cc in omega arith)
under-chosen (x ∷ chosen) i k e = go (eqb i x) refl e (λ f. under-chosen chosen i k f)
  where
    go : (t : Bool) → eqb i x ≡ t → (t || holds i chosen) ≡ true → (holds i chosen ≡ true → under chosen k (i / 2 ^ k) ≡ true) → (eqb (x / 2 ^ k) (i / 2 ^ k) || under chosen k (i / 2 ^ k)) ≡ true
    go true h f r = rw (eq-eqb (x / 2 ^ k) (i / 2 ^ k) (ap (λ (n : ℕ). n / 2 ^ k) (sym (eqb-true i x h))))
    go false h f r = rw (r f) (or_true (eqb (x / 2 ^ k) (i / 2 ^ k)))

pub below-told : (n : ℕ) (chosen : List ℕ) → all_below n chosen ≡ true → (i : ℕ) → holds i chosen ≡ true → i < n
unfolding all_below holds
below-told n [] e i h = absurd (let z : ◌≡◌ {A = ℕ} 0 1 = cc in omega arith)
below-told n (x ∷ chosen) e i h = go (ltb x n) refl (eqb i x) refl e h (λ f g. below-told n chosen f i g)
  where
    go : (a : Bool) → ltb x n ≡ a → (b : Bool) → eqb i x ≡ b → (a && all_below n chosen) ≡ true → (b || holds i chosen) ≡ true
        → (all_below n chosen ≡ true → holds i chosen ≡ true → i < n) → i < n
    go true p true q f g r = rw (eqb-true i x q) (ltb-true x n p)
    go true p false q f g r = r f g
    go false p b q f g r = absurd (let z : ◌≡◌ {A = ℕ} 0 1 = cc in omega arith)

-- ---- the leaves asked for

-- the ways in which a leaf is asked for
pub data Asking (ids : List (List ℕ)) (chosen : List ℕ) (k o : ℕ) (c : Carried) : Type 0 where
  as_client : k ≡ 0 → under chosen 0 o ≡ true → client (node ids 0 o) ≡ c → Asking ids chosen k o c
  as_sibling : under chosen k (sibling_position o) ≡ true → sibling_at ids k o ≡ c → Asking ids chosen k o c

pub asked-told : (ids : List (List ℕ)) (chosen : List ℕ) (k o : ℕ) (c : Carried) → asked ids chosen k o ≡ Some c → Asking ids chosen k o c
unfolding asked
asked-told ids chosen k o c e = go (eqb k 0) refl (under chosen 0 o) refl (under chosen k (sibling_position o)) refl (left_out chosen k o) e
  where
    sib : (n : Bool) → under chosen k (sibling_position o) ≡ n → (l : Bool) → pick (n && not l) (Some (sibling_at ids k o)) None ≡ Some c → Asking ids chosen k o c
    sib true h true e = absurd (let z : ◌≡◌ {A = ℕ} 0 1 = cc in omega arith)
    sib true h false e = as_sibling h cc
    sib false h l e = absurd (let z : ◌≡◌ {A = ℕ} 0 1 = cc in omega arith)

    go : (a : Bool) → eqb k 0 ≡ a → (b : Bool) → under chosen 0 o ≡ b → (n : Bool) → under chosen k (sibling_position o) ≡ n → (l : Bool)
        → pick (a && b) (Some (client (node ids 0 o))) (pick (n && not l) (Some (sibling_at ids k o)) None) ≡ Some c → Asking ids chosen k o c
    go true ea true eb n en l e = as_client (eqb-true k 0 ea) eb cc
    go true ea false eb n en l e = sib n en l e
    go false ea b eb n en l e = sib n en l e

-- a node that a chosen climb passes is one of the tree
pub under-below : (ids : List (List ℕ)) (chosen : List ℕ) → Below ids chosen → (k j : ℕ) → under chosen k j ≡ true → j < size ids k
under-below ids chosen b k j e = let u = under-told chosen k j e in rw (← u.2) (stays ids u.0 (b u.0 u.1) k)

module _ {block : ℕ} {ids : List (List ℕ)} {chosen : List ℕ} (g : Sizes block ids chosen) where
  pub under-size : (k j : ℕ) → under chosen k j ≡ true → j < size ids k
  under-size = under-below ids chosen g.below

  sibling-fits : (k o : ℕ) → under chosen k (sibling_position o) ≡ true → CarriedFit k o (sibling_at ids k o)
  unfolding sibling_at CarriedFit Hashes
  sibling-fits k o e = go (ltb o (size ids k)) refl
    where
      odd-one : (t : Bool) → eqb (o % 2) 1 ≡ t → size ids k ≤ o → o % 2 ≡ 1
      odd-one true h l = eqb-true _ _ h
      odd-one false h l = absurd (let u = rw (sibling-even o (eqb-false _ _ h)) at (under-size k (sibling_position o) e) in omega arith)

      go : (t : Bool) → ltb o (size ids k) ≡ t → CarriedFit k o (pick t (plain (node ids k o)) copy)
      go true h = layer-hashes ids g.hashes k o (ltb-true _ _ h)
      go false h = odd-one (eqb (o % 2) 1) refl (ltb-false _ _ h)

  asked-fits : (k o : ℕ) (c : Carried) → asked ids chosen k o ≡ Some c → CarriedFit k o c
  unfolding CarriedFit Hashes
  asked-fits k o c e = go (asked-told ids chosen k o c e)
    where
      go : Asking ids chosen k o c → CarriedFit k o c
      go (as_client z u is) = rw (← is) (z, layer-hashes ids g.hashes 0 o (under-size 0 o u))
      go (as_sibling u is) = rw (← is) (sibling-fits k o u)

  -- ---- a level

  level_fit : (limit k n o : ℕ) (seen : List ℕ) → o + n ≤ limit → ((x : ℕ) → o ≤ x → holds x seen ≡ false) → Fits (EntryFit limit k) and_entry seen (rising (asked ids chosen k) o n)
  unfolding rising Fits
  level_fit limit k zero o seen b h = tt
  level_fit limit k (suc n) o seen b h =
      go (asked ids chosen k o) refl (λ s f. level_fit limit k n (o + 1) s (omega arith) f)
    where
      f : ℕ → Option Carried
      f = asked ids chosen k

      go : (v : Option Carried) → f o ≡ v → ((s : List ℕ) → ((x : ℕ) → o + 1 ≤ x → holds x s ≡ false) → Fits (EntryFit limit k) and_entry s (rising f (o + 1) n))
          → Fits (EntryFit limit k) and_entry seen (rising f o (suc n))
      go None e ih = rw (rising_none f o n e) (ih seen (λ x l. h x (omega arith)))
      go (Some c) e ih =
          rw (rising-some f o n c e)
          ((omega arith, h o (omega arith), asked-fits k o c e), ih (seen ++ (o ∷ [])) (λ x l. holds_snoc x seen o ∙ rw (h x (omega arith)) (ne_eqb x o (λ q. omega arith))))

pub rising-length : (f : ℕ → Option Carried) (n o : ℕ) → length (rising f o n) ≤ n
unfolding rising
rising-length f zero o = omega arith
rising-length f (suc n) o = go (f o) refl (rising-length f n (o + 1))
  where
    go : (v : Option Carried) → f o ≡ v → length (rising f (o + 1) n) ≤ n → length (rising f o (suc n)) ≤ suc n
    go None e r = rw (rising_none f o n e) (omega arith)
    go (Some c) e r = rw (rising-some f o n c e) (omega arith)

pub levels-length : (ids : List (List ℕ)) (chosen : List ℕ) (h k n : ℕ) → length (levels_for ids chosen h k n) ≡ n
unfolding levels_for
levels-length ids chosen h k zero = refl
levels-length ids chosen h k (suc n) = ap suc (levels-length ids chosen h (k + 1) n)

module _ {block : ℕ} {ids : List (List ℕ)} {chosen : List ℕ} (g : Sizes block ids chosen) where
  pub low : height ids ≤ 10
  low = height-least (length ids) 10 g.few

  pub high : 1 ≤ height ids
  high = go (height ids) refl (height-holds (length ids))
    where
      go : (h : ℕ) → height ids ≡ h → length ids ≤ 2 ^ height ids → 1 ≤ height ids
      go zero e l = absurd (let t = g.two in let m = rw e at l in omega arith)
      go (suc h) e l = omega arith

  levels_fit : (n k : ℕ) → Fits (LevelFit (height ids)) next_level k (levels_for ids chosen (height ids) k n)
  unfolding levels_for Fits holds
  levels_fit zero k = tt
  levels_fit (suc n) k =
      let p : 2 ^ (height ids - k) ≤ 2 ^ 10 = pow_mono {j = 10} (let l = low in omega arith) in
      ((let r = rising-length (asked ids chosen k) (2 ^ (height ids - k)) 0 in omega arith, level_fit g (2 ^ (height ids - k)) k (2 ^ (height ids - k)) 0 [] (omega arith) (λ x l. refl)), levels_fit n (k + 1))

  pub block-bump-fits : ContentFit (block_bump block ids chosen)
  unfolding block_bump
  block-bump-fits = record
      { block_fits = g.block_fits; some = high; low = let l = low in omega arith; all = levels-length ids chosen (height ids) 0 (height ids); levels_fit = levels_fit (height ids) 0 }

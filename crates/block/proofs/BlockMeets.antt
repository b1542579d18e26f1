-- What is written for a block meets the rules: it is read as that BUMP, with exactly the leaves asked for.
use mathlib.Core.Path.{◌≡◌, refl, sym, ap, ◌∙◌}
use mathlib.Core.Bool.{Bool, true, false}
use mathlib.Core.List.{List, [], ◌∷◌, map}
use Rattle.std.specs.Prelude.{Option, Some, None}
use Prim.Native.Nat.{ℕ, zero, suc, ◌+◌, ◌-◌, ◌^◌, ◌≤◌, ◌<◌}
use lib.ListN.{length, get_or, get_or-map}
use lib.Dec.{eqb}
use native.Mathlib.Omega.{arith}
use native.Mathlib.Nat.{zero-add, add-zero}
use borrow.Author.Tests.{eqb-true, eqb-false}
use Rattle.format.specs.declared.leaf.Leaf.{Leaf}
use Rattle.format.specs.Parse.{ok}
use Rattle.path.specs.Search.{lookup}
use Rattle.format.specs.Bump.{Bump, bump_whole}
use Rattle.encoding.specs.BumpBytes.{Carried, Content, bump_bytes, entry_of, content_of}
use Rattle.encoding.proofs.BumpRoundTrip.{bump-read_back}
use Rattle.block.specs.Tree.{height}
use Rattle.block.proofs.TreeLaws.{height-holds, height-least}
use Rattle.block.specs.BlockBump.{asked, rising, level_for, levels_for, block_bump, found_as, Rising, Meets}
use Rattle.block.proofs.RisingLaws.{at_offset, From, found-says, before-none, at_first, at_later, rising_none, rising-some}
use Rattle.block.proofs.BlockFit.{Sizes, block-bump-fits}

-- the leaves asked for rise, and stand where they were asked for
pub rising-rises : (f : ℕ → Option Carried) (n o m : ℕ) → m ≤ o → From m (rising f o n)
unfolding rising From
rising-rises f zero o m l = tt
rising-rises f (suc n) o m l = go (f o) refl (λ d k. rising-rises f n (o + 1) d k)
  where
    go : (v : Option Carried) → f o ≡ v → ((d : ℕ) → d ≤ o + 1 → From d (rising f (o + 1) n)) → From m (rising f o (suc n))
    go None e r = rw (rising_none f o n e) (r m (omega arith))
    go (Some c) e r = rw (rising-some f o n c e) (l, r (o + 1) (omega arith))

pub rising-at : (f : ℕ → Option Carried) (n o x : ℕ) → o ≤ x → x < o + n → at_offset x (rising f o n) ≡ f x
unfolding rising
rising-at f zero o x a b = absurd (omega arith)
rising-at f (suc n) o x a b = go (f o) refl (eqb o x) refl (λ k. rising-at f n (o + 1) x k (omega arith))
  where
    go : (v : Option Carried) → f o ≡ v → (t : Bool) → eqb o x ≡ t → (o + 1 ≤ x → at_offset x (rising f (o + 1) n) ≡ f x) → at_offset x (rising f o (suc n)) ≡ f x
    go None e true h r =
        let d : o ≡ x = eqb-true o x h in
        rw (rising_none f o n e) (before-none (o + 1) x (rising f (o + 1) n) (rising-rises f n (o + 1) (o + 1) (omega arith)) (omega arith) ∙ sym e ∙ ap f d)
    go None e false h r = let d = eqb-false o x h in rw (rising_none f o n e) (r (omega arith))
    go (Some c) e true h r =
        let d : o ≡ x = eqb-true o x h in
        rw (rising-some f o n c e) (at_first (record { offset = o; carried = c }) (rising f (o + 1) n) x d ∙ sym e ∙ ap f d)
    go (Some c) e false h r =
        let d = eqb-false o x h in
        rw (rising-some f o n c e) (at_later (record { offset = o; carried = c }) (rising f (o + 1) n) x d ∙ r (omega arith))

pub from_rises : (s : List ℕ) (m : ℕ) (l : List Leaf) → From m (map (entry_of s) l) → Rising l
unfolding From Rising
from_rises s m [] f = tt
from_rises s m (a ∷ []) f = tt
from_rises s m (a ∷ (b ∷ l)) f = (let k = f.1.0 in omega arith, from_rises s (a.offset + 1) (b ∷ l) f.1)

pub level_of_lem : (ids : List (List ℕ)) (chosen : List ℕ) (h n k j : ℕ) → j < n → get_or (levels_for ids chosen h k n) j [] ≡ level_for ids chosen h (k + j)
unfolding levels_for
level_of_lem ids chosen h zero k j b = absurd (omega arith)
level_of_lem ids chosen h (suc n) k zero b = ap (level_for ids chosen h) (sym (add-zero k))
level_of_lem ids chosen h (suc n) k (suc j) b = level_of_lem ids chosen h n (k + 1) j (omega arith) ∙ ap (level_for ids chosen h) (omega arith)

-- what is read of the bytes written
pub record ReadBack (block : ℕ) (ids : List (List ℕ)) (chosen s : List ℕ) : Type 0 where
  pub bump : Bump
  pub end : ℕ
  pub read : bump_whole s ≡ ok bump end
  pub says : content_of s bump ≡ block_bump block ids chosen

pub read_back : {block : ℕ} {ids : List (List ℕ)} {chosen : List ℕ} → Sizes block ids chosen → ReadBack block ids chosen (bump_bytes (block_bump block ids chosen))
read_back {block} {ids} {chosen} g =
    let r = bump-read_back (block_bump block ids chosen) (block-bump-fits g) in
    record { bump = r.0; end = length (bump_bytes (block_bump block ids chosen)); read = r.1; says = r.2 }

module _ {block : ℕ} {ids : List (List ℕ)} {chosen s : List ℕ} (r : ReadBack block ids chosen s) where
  pub height_back : r.bump.height ≡ height ids
  unfolding block_bump
  height_back = ap (λ (c : Content). c.height) r.says

  pub level_back : (k : ℕ) → k < height ids → map (entry_of s) (get_or r.bump.levels k []) ≡ level_for ids chosen (height ids) k
  unfolding block_bump
  level_back k b =
      sym (get_or-map (map (entry_of s)) r.bump.levels k [])
      ∙ ap (λ (c : Content). get_or c.levels k []) r.says
      ∙ level_of_lem ids chosen (height ids) (height ids) 0 k b
      ∙ ap (level_for ids chosen (height ids)) (zero-add k)

  pub leaf_back : (k o : ℕ) → k < height ids → o < 2 ^ (height ids - k) → found_as s (lookup o (get_or r.bump.levels k [])) ≡ asked ids chosen k o
  leaf_back k o b l =
      found-says s o (get_or r.bump.levels k [])
      ∙ ap (at_offset o) (level_back k b)
      ∙ rising-at (asked ids chosen k) (2 ^ (height ids - k)) 0 o (omega arith) (omega arith)

  pub back_meets : Meets block ids chosen s
  unfolding block_bump
  back_meets = record {
    bump = r.bump;
    end = r.end;
    read = r.read;
    of_block = ap (λ (c : Content). c.block) r.says;
    holds_list = rw height_back (height-holds (length ids));
    least = λ h e. rw height_back (height-least (length ids) h e);
    rises = λ k b. from_rises s 0 (get_or r.bump.levels k []) (rw (level_back k (rw height_back at b)) (rising-rises (asked ids chosen k) (2 ^ (height ids - k)) 0 0 (omega arith)));
    leaves = λ k o b l. leaf_back k o (rw height_back at b) (rw height_back at l);
  }

-- the bytes written meet the rules
pub bump_meets : {block : ℕ} {ids : List (List ℕ)} {chosen : List ℕ} → Sizes block ids chosen → Meets block ids chosen (bump_bytes (block_bump block ids chosen))
bump_meets g = back_meets (read_back g)

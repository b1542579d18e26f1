-- "Of an unused BUMP only the layout is asked" (01, "The bundle rule").
use Prim.Native.Nat.{ℕ, zero, suc, ◌+◌, ◌-◌, ◌%◌, ◌≤◌, ◌<◌}
use mathlib.Core.Path.{◌≡◌, refl, sym, ap, ◌∙◌}
use mathlib.Core.Bool.{Bool, true, false}
use mathlib.Core.List.{List, [], ◌∷◌, ◌++◌, map}
use native.Mathlib.Omega.{arith}
use lib.ListN.{length, get_or, take, length-append, length-map, get_or-append}
use lib.Seq.{get_or-append-add}
use lib.Dec.{ltb, eqb}
use borrow.Author.Tests.{le-leb, ltb-true, ltb-false}
use Rattle.std.specs.Prelude.{Option, None, Some}
use Rattle.format.specs.Parse.{ok, pick}
use Rattle.format.specs.Bump.{Bump, bump_field}
use Rattle.format.specs.Beef.{Beef, beef_whole}
use Rattle.format.proofs.BeefLaws.{beef-told}
use Rattle.format.specs.Refusals.{BAD_ROOTS, MAX_INPUT, MAX_BUMPS}
use Rattle.spv.specs.Result.{refused, carrying}
use Rattle.bundle.specs.Bundle.{nth_bump, judge_entries, judge_read, judge_beef, judge_up_to}
use Rattle.spv.proofs.RowsLaws.{map_at}
use Rattle.bundle.proofs.BundleTheorems.{empty_entry}
use Rattle.bundle.proofs.RereadBundle.{TxSaid, bump_said, tx_said, entry_said}
use Rattle.bundle.proofs.OneMoreBump.{past, renumbered, later, each_record, entry_at, OneMore, one_more}
use Rattle.bundle.proofs.BundleParts.{Spells, chained, anchor_bytes, Part, part_bytes, no_part, bundle_bytes, Parts}
use Rattle.bundle.proofs.BundlePartsRead.{PartsRead, place_of, parts-read}

-- a transaction with the number that its BUMP has after one more was put in at m
abbrev pub renumbered_part : ℕ → Part → Part
renumbered_part m p = record { raw = p.raw; anchor = renumbered m p.anchor }

-- ---- lists with one more

module _ {A : Type 0} (before after : List A) (x d : A) where
  pub past-at : (n : ℕ) → get_or (before ++ x ∷ after) (past (length before) n) d ≡ get_or (before ++ after) n d
  unfolding past
  past-at n = go (ltb n (length before)) refl
    where
      go : (t : Bool) → ltb n (length before) ≡ t → get_or (before ++ x ∷ after) (pick t n (n + 1)) d ≡ get_or (before ++ after) n d
      go true h = let low = ltb-true n (length before) h in get_or-append before (x ∷ after) d n low ∙ sym (get_or-append before after d n low)
      go false h =
          let high = ltb-false n (length before) h in
          let j : n ≡ length before + (n - length before) = omega arith in
          let k : n + 1 ≡ length before + suc (n - length before) = omega arith in
          ap (λ (i : ℕ). get_or (before ++ x ∷ after) i d) k ∙ get_or-append-add before (x ∷ after) (suc (n - length before)) d
          ∙ sym (ap (λ (i : ℕ). get_or (before ++ after) i d) j ∙ get_or-append-add before after (n - length before) d)

-- what holds of x and of all in the shorter list holds of all in the longer one
all_more : {A : Type 0} (P : A → Type 0) (before after : List A) (x d : A) → P x → ((n : ℕ) → n < length (before ++ after) → P (get_or (before ++ after) n d))
    → (n : ℕ) → n < length (before ++ x ∷ after) → P (get_or (before ++ x ∷ after) n d)
all_more P [] after x d h f zero low = h
all_more P [] after x d h f (suc n) low = f n (omega arith)
all_more P (w ∷ before) after x d h f zero low = f 0 (omega arith)
all_more P (w ∷ before) after x d h f (suc n) low = all_more P before after x d h (λ k b. f (suc k) (omega arith)) n (omega arith)

chained_more : (before after : List (List ℕ)) (x : List ℕ) → length (chained (before ++ x ∷ after)) ≡ length (chained (before ++ after)) + length x
unfolding chained
chained_more [] after x = omega (arith, length-append x (chained after))
chained_more (w ∷ before) after x =
    let e = chained_more before after x in
    omega (arith, length-append w (chained (before ++ x ∷ after)), length-append w (chained (before ++ after)))

same_width : (m : ℕ) (a : Option ℕ) → length (anchor_bytes (renumbered m a)) ≡ length (anchor_bytes a)
unfolding anchor_bytes renumbered
same_width m (Some n) = refl
same_width m None = refl

same_place : (m : ℕ) (parts : List Part) (k : ℕ) → place_of (map part_bytes (map (renumbered_part m) parts)) k ≡ place_of (map part_bytes parts) k
unfolding chained
same_place m [] zero = refl
same_place m [] (suc k) = refl
same_place m (p ∷ parts) zero = refl
same_place m (p ∷ parts) (suc k) =
    let e = same_place m parts k in
    let w = same_width m p.anchor in
    let ws : List ℕ = chained (take k (map part_bytes parts)) in
    let us : List ℕ = chained (take k (map part_bytes (map (renumbered_part m) parts))) in
    omega (arith, length-append (part_bytes (renumbered_part m p)) us, length-append (part_bytes p) ws, length-append p.raw (anchor_bytes p.anchor), length-append p.raw (anchor_bytes (renumbered m p.anchor)))

-- a bundle that was read is judged by its transactions, if the roots are whole
judge_read_lem : (s roots : List ℕ) (fee room : ℕ) (b : Beef) (q : ℕ) → length s ≤ MAX_INPUT → beef_whole room s ≡ ok b q → judge_beef s roots fee room ≡ pick (eqb (length roots % 32) 0) (judge_entries s roots fee b) (refused (carrying BAD_ROOTS 0))
unfolding judge_up_to judge_read
judge_read_lem s roots fee room b q size e = rw (le-leb _ _ size, e)

-- ---- the theorem

module _ (room : ℕ) (before after : List (List ℕ)) (extra count : List ℕ) (parts : List Part) (x : Bump) where
  abbrev m : ℕ
  m = length before

  abbrev more : List (List ℕ)
  more = before ++ extra ∷ after

  abbrev moved : List Part
  moved = map (renumbered_part m) parts

  more-length : length more ≡ suc (length (before ++ after))
  more-length = omega (arith, length-append before (extra ∷ after), length-append before after)

  moved_at : (k : ℕ) → k < length parts → get_or moved k no_part ≡ renumbered_part m (get_or parts k no_part)
  moved_at k h = map_at (renumbered_part m) parts k no_part no_part h

  past-below : (a : Option ℕ) (n k : ℕ) → ((i : ℕ) → a ≡ Some i → i < k) → renumbered m a ≡ Some n → n < suc k
  unfolding renumbered past
  past-below (Some i) n k f e = go (ltb i m) (f i refl) e
    where
      go : (t : Bool) → i < k → Some (pick t i (i + 1)) ≡ Some n → n < suc k
      go true h e = let is : i ≡ n = cc in omega arith
      go false h e = let is : i + 1 ≡ n = cc in omega arith
  past-below None n k f e = absurd (let z : ◌≡◌ {A = ℕ} 0 1 = cc in omega arith)

  module _ (p : Parts room (before ++ after) count parts) (encode_all : Spells bump_field extra x) (few : length (before ++ after) < MAX_BUMPS) (size : length (bundle_bytes more count moved) ≤ MAX_INPUT) where
    more_parts : Parts room more count moved
    more_parts =
        let n : length moved ≡ length parts = length-map parts (renumbered_part m) in
        let some = p.some in
        let low = p.parts_low in
        let fits = p.fits in
        record {
          size = size;
          bumps-low = omega (arith, more-length);
          bump = all_more (λ (u : List ℕ). (b : Bump) × Spells bump_field u b) before after extra [] (x, encode_all) p.bump;
          counted = rw n p.counted;
          some = omega arith;
          parts_low = omega arith;
          fits = omega arith;
          transaction = λ k h. let l : k < length parts = omega arith in rw (moved_at k l) (p.transaction k l);
          anchored = λ k i h e. let l : k < length parts = omega arith in
              let below = past-below (get_or parts k no_part).anchor i (length (before ++ after)) (λ j is. p.anchored k j l is) (ap (λ (z : Part). z.anchor) (sym (moved_at k l)) ∙ e) in
              omega (arith, more-length);
        }

    -- of each string the bundle that is read
    one : PartsRead room (before ++ after) count parts
    one = parts-read room (before ++ after) count parts p

    two : PartsRead room more count moved
    two = parts-read room more count moved more_parts

    abbrev s : List ℕ
    s = bundle_bytes (before ++ after) count parts

    abbrev t : List ℕ
    t = bundle_bytes more count moved

    past-low : (n : ℕ) → n < length (before ++ after) → past m n < length more
    unfolding past
    past-low n low = go (ltb n m)
      where
        go : (x : Bool) → pick x n (n + 1) < length more
        go true = omega (arith, more-length)
        go false = omega (arith, more-length)

    bumps-alike : (n : ℕ) → n < length one.bundle.bumps → bump_said s (nth_bump one.bundle.bumps n) ≡ bump_said t (nth_bump two.bundle.bumps (past m n))
    bumps-alike n h =
        let low : n < length (before ++ after) = omega (arith, one.bump-count) in
        let b = p.bump n low in
        let at : get_or more (past m n) [] ≡ get_or (before ++ after) n [] = past-at before after extra [] n in
        let said = two.bump (past m n) b.0 (past-low n low) in
        sym (one.bump n b.0 low b.1) ∙ (rw at at said) b.1

    module _ (k : ℕ) (low : k < length parts) where
      parts-alike : (tx_said s (entry_at one.bundle k).transaction, renumbered m (entry_at one.bundle k).anchor) ≡ entry_said t (entry_at two.bundle k)
      parts-alike =
          let x = p.transaction k low in
          let a = one.part k x.0 low x.1 in
          let b = two.part k x.0 (omega (arith, length-map parts (renumbered_part m))) in
          ap (λ (z : TxSaid × Option ℕ). (z.0, renumbered m z.1)) (sym a) ∙ (rw (moved_at k low) at b) x.1

    alike : OneMore s t m (length extra) one.bundle two.bundle
    alike =
        let n = length-map parts (renumbered_part m) in
        let i = one.part_count in
        let j = two.part_count in
        record {
          bumps = bumps-alike;
          count = omega arith;
          transactions = λ k h. ap (λ (z : TxSaid × Option ℕ). z.0) (parts-alike k (omega arith));
          starts = λ k h. let low : k < length parts = omega arith in
              let a = one.start k low in
              let b = two.start k (omega arith) in
              omega (arith, chained_more before after extra, same_place m parts k);
          anchors = λ k h. sym (ap (λ (z : TxSaid × Option ℕ). z.1) (parts-alike k (omega arith)));
          below = λ k n h e. ((beef-told room s one.read).entry k empty_entry h).anchored n e;
        }

    proved-alike : (roots : List ℕ) (fee : ℕ) → judge_beef t roots fee room ≡ each_record (later m (length extra)) (judge_beef s roots fee room)
    unfolding each_record
    proved-alike roots fee =
        judge_read_lem t roots fee room two.bundle (length t) size two.read
        ∙ go (eqb (length roots % 32) 0)
        ∙ sym (ap (each_record (later m (length extra))) (judge_read_lem s roots fee room one.bundle (length s) p.size one.read))
      where
        go : (x : Bool) → pick x (judge_entries t roots fee two.bundle) (refused (carrying BAD_ROOTS 0)) ≡ each_record (later m (length extra)) (pick x (judge_entries s roots fee one.bundle) (refused (carrying BAD_ROOTS 0)))
        go true = one_more s t roots fee m (length extra) one.bundle two.bundle alike
        go false = refl

-- "Of an unused BUMP only the layout is asked": put one more BUMP among those of a bundle, and give each anchor the number that its BUMP then has. The two
-- are judged alike: a refusal has the same number and transaction; on acceptance the records are the same, but that each transaction starts later by the
-- BUMP's bytes, and anchored ones name their BUMP by its new number. Of the BUMP put in nothing is asked but that it can be read
pub unused_bump : (room : ℕ) (roots : List ℕ) (fee : ℕ) (before after : List (List ℕ)) (extra count : List ℕ) (parts : List Part) (x : Bump)
    → Parts room (before ++ after) count parts
    → Spells bump_field extra x
    → length (before ++ after) < MAX_BUMPS
    → length (bundle_bytes (before ++ extra ∷ after) count (map (renumbered_part (length before)) parts)) ≤ MAX_INPUT
    → judge_beef (bundle_bytes (before ++ extra ∷ after) count (map (renumbered_part (length before)) parts)) roots fee room
    ≡ each_record (later (length before) (length extra)) (judge_beef (bundle_bytes (before ++ after) count parts) roots fee room)
unused_bump room roots fee before after extra count parts x p encode_all few size = proved-alike room before after extra count parts x p encode_all few size roots fee

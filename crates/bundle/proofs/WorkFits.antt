-- The count of hash work fits (02, Item 11): fewer than 2 ^ 32 compressions for any input.
use Prim.Native.Nat.{ℕ, zero, suc, ◌+◌, ◌-◌, ◌*◌, ◌%◌, ◌≤◌, ◌<◌}
use native.Mathlib.Omega.{arith}
use Rattle.std.specs.Prelude.{Option, Some, None}
use mathlib.Core.Path.{◌≡◌, refl, ap, subst}
use mathlib.Core.Bool.{Bool, true, false}
use mathlib.Core.List.{List, [], ◌∷◌}
use lib.Dec.{leb, eqb}
use lib.ListN.{length, get_or}
use Rattle.format.specs.declared.level.Layout.{Layout}
use Rattle.format.specs.declared.leaf.Leaf.{Leaf}
use Rattle.format.specs.Parse.{Parse, ok, fault, pick, many, each}
use Rattle.format.proofs.ParseLaws.{many-told}
use Rattle.path.specs.Search.{least_offset}
use Rattle.format.specs.Level.{level_in_turn, next_turn}
use Rattle.format.proofs.LevelLaws.{level-few}
use Rattle.format.proofs.BumpLaws.{bump-told}
use Rattle.format.specs.Beef.{BeefEntry, Beef, beef_whole}
use Rattle.format.proofs.BeefLaws.{EntryRead, BeefRead, beef-told}
use Rattle.format.proofs.TransactionLaws.{tx_told}
use Rattle.format.specs.Refusals.{MAX_INPUT, MAX_LEAVES}
use Rattle.spv.specs.Siblings.{written_by, find_in}
use Rattle.spv.specs.Joins.{leaves_in}
use Rattle.spv.specs.Hashes.{among}
use Rattle.bundle.specs.Bundle.{empty_bump, nth_bump, entry_id, ruling}
use Rattle.bundle.proofs.BundleTheorems.{empty_entry}
use Rattle.climbs.specs.Count.{start_cost}
use Rattle.climbs.proofs.CountLaws.{climb_leaves}
use Rattle.bundle.specs.Amounts.{Payment, payment_of, ids_of}
use Rattle.bundle.specs.Work.{id_work, ids_work, bump_cost, anchor_cost, ruling_cost, entries_work, read_work, judge_work}
use Rattle.bundle.proofs.WorkLaws.{sum_most, sum_same, from_most}

-- ---- leaves of a path

levels-few : (layout : Layout) (h n turn : ℕ) (s : List ℕ) (at : ℕ) {ls : List (List Leaf)} {q : ℕ} → many (level_in_turn layout h) next_turn n turn s at ≡ ok ls q → (k : ℕ) → length (get_or ls k []) ≤ MAX_LEAVES
unfolding many each
levels-few layout h zero turn s at {ls} e k = let z : [] ≡ ls = cc in subst (λ (l : List (List Leaf)). length (get_or l k []) ≤ MAX_LEAVES) z (omega arith)
levels-few layout h (suc n) turn s at {ls} e k =
    let x = many-told (level_in_turn layout h) next_turn n turn s at e in
    subst (λ (l : List (List Leaf)). length (get_or l k []) ≤ MAX_LEAVES) x.5 (go x.0 x.2 k (level-few layout _ _ s at (ap (each length) x.3)) (levels-few layout h n (next_turn turn x.0) s x.1 x.4))
  where
    go : (a : List Leaf) (rest : List (List Leaf)) (k : ℕ) → length a ≤ MAX_LEAVES → ((k : ℕ) → length (get_or rest k []) ≤ MAX_LEAVES) → length (get_or (a ∷ rest) k []) ≤ MAX_LEAVES
    go a rest zero l r = l
    go a rest (suc k) l r = r k

leaves-few : (levels : List (List Leaf)) → ((k : ℕ) → length (get_or levels k []) ≤ MAX_LEAVES) → (n : ℕ) → leaves_in levels n ≤ MAX_LEAVES * n
unfolding leaves_in
leaves-few levels f zero = omega arith
leaves-few levels f (suc n) = omega (arith, f n, leaves-few levels f n)

-- ---- one transaction

-- the layers of a path, and the most leaves that they have
abbrev CLIMB_MOST : ℕ
CLIMB_MOST = 65600

start_fits : (s : List ℕ) (levels : List (List Leaf)) (h : ℕ) (id : List ℕ) (x : Option ℕ) → h + leaves_in levels h ≤ CLIMB_MOST → start_cost (written_by s (find_in levels)) h id x ≤ CLIMB_MOST
unfolding start_cost
start_fits s levels h id (Some i) f = omega (arith, climb_leaves s levels h i id)
start_fits s levels h id None f = omega arith

module _ (room : ℕ) (s : List ℕ) (b : Beef) (read : BeefRead room s b) where
  bump-fits : (n : ℕ) → n < length b.bumps → (nth_bump b.bumps n).height + leaves_in (nth_bump b.bumps n).levels (nth_bump b.bumps n).height ≤ CLIMB_MOST
  bump-fits n l =
      let x = read.bump n empty_bump l in
      let y = bump-told s x.at x.read in
      let few = leaves-few (nth_bump b.bumps n).levels (levels-few Layout.Bump (nth_bump b.bumps n).height (nth_bump b.bumps n).height 0 s (nth_bump b.bumps n).start y.levels) (nth_bump b.bumps n).height in
      omega (arith, y.low, few)

  pub entry_fits : (earlier : List Payment) (e : BeefEntry) → EntryRead (length b.bumps) s e → ruling_cost s b.bumps earlier e ≤ CLIMB_MOST
  unfolding ruling_cost anchor_cost bump_cost
  entry_fits earlier e r = go (among (entry_id s e) (ids_of earlier)) e.anchor refl
    where
      go : (t : Bool) (x : Option ℕ) → e.anchor ≡ x → pick t 0 (anchor_cost s b.bumps (entry_id s e) x) ≤ CLIMB_MOST
      go true x f = omega arith
      go false (Some n) f = start_fits s (nth_bump b.bumps n).levels (nth_bump b.bumps n).height (entry_id s e) (least_offset s (entry_id s e) (get_or (nth_bump b.bumps n).levels 0 [])) (bump-fits n (r.anchored n f))
      go false None f = omega arith

  id_fits : (e : BeefEntry) → EntryRead (length b.bumps) s e → id_work (e.transaction.end - e.transaction.start) ≤ 262146
  unfolding id_work
  id_fits e r = let t = tx_told s e.transaction.start r.transaction in omega (arith, t.inside, read.size)

  pub entries_fit : (roots : List ℕ) (fee : ℕ) → entries_work s roots fee b < 4294967296
  unfolding entries_work ids_work
  entries_fit roots fee =
      let ids = sum_most (λ (e : BeefEntry). id_work (e.transaction.end - e.transaction.start)) (λ _. 262146) empty_entry b.entries (λ k h. id_fits (get_or b.entries k empty_entry) (read.entry k empty_entry h)) in
      let climbs = from_most (payment_of s) (ruling s roots fee b.bumps) (ruling_cost s b.bumps) (λ _. CLIMB_MOST) empty_entry [] b.entries (λ k h before. entry_fits before (get_or b.entries k empty_entry) (read.entry k empty_entry h)) in
      omega (arith, ids, climbs, sum_same 262146 b.entries, sum_same CLIMB_MOST b.entries, read.entries-low)

pub work_fits : (s roots : List ℕ) (fee room : ℕ) → judge_work s roots fee room < 4294967296
unfolding judge_work read_work
work_fits s roots fee room = go (leb (length s) MAX_INPUT) (eqb (length roots % 32) 0) (beef_whole room s) refl
  where
    go : (t u : Bool) (p : Parse Beef) → beef_whole room s ≡ p → pick t (pick u (read_work s roots fee p) 0) 0 < 4294967296
    go true true (ok c n) h = entries_fit room s c (beef-told room s h) roots fee
    go true true (fault number place) h = omega arith
    go true false p h = omega arith
    go false u p h = omega arith

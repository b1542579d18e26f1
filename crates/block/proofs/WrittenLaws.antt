-- What an accepted call has written: the one string that meets the rules, which proves every chosen id (02, Item 1).
use mathlib.Core.Path.{◌≡◌, refl, ◌∙◌}
use mathlib.Core.Bool.{Bool, true, false, not}
use mathlib.Core.List.{List}
use Prim.Native.Nat.{ℕ, ◌/◌, ◌%◌, ◌≤◌}
use lib.ListN.{length}
use lib.Dec.{leb, eqb}
use native.Mathlib.Omega.{arith}
use native.Mathlib.Nat.{div-one}
use borrow.Author.Tests.{leb-true}
use Rattle.format.proofs.Basics.{and-true}
use Rattle.format.specs.Parse.{pick}
use Rattle.format.specs.Level.{holds}
use Rattle.format.specs.Refusals.{NOT_LISTED, MAX_BLOCK}
use Rattle.spv.specs.declared.rejection.Rejection.{Rejection}
use Rattle.spv.specs.Result.{Result, accepted, refused, carrying, follow}
use Rattle.spv.specs.Hashes.{hashes_of}
use Rattle.spv.specs.Prove.{proof_of, prove}
use Rattle.spv.specs.Readings.{bump_reading}
use Rattle.encoding.specs.Encode.{AllBytes}
use Rattle.encoding.specs.BumpBytes.{bump_bytes}
use Rattle.block.specs.Tree.{node, height, root, tree_siblings, tree_climb, reaches}
use Rattle.block.specs.BlockBump.{block_bump, sized, none_chosen, all_below, distinct, climbs_from, writing, Meets}
use Rattle.block.proofs.OutputLaws.{room-told}
use Rattle.block.proofs.ClimbsLaws.{climbs-reach}
use Rattle.spv.proofs.HashesLaws.{hashes-length}
use Rattle.block.proofs.IdsLaws.{ids_hashes}
use Rattle.block.proofs.BlockFit.{Sizes, below-told, under-chosen}
use Rattle.block.proofs.BlockMeets.{read_back, bump_meets}
use Rattle.block.proofs.BlockProved.{chosen-proved}
use Rattle.block.proofs.OnlyBytes.{only-bytes}

-- a test that did not refuse
passed : (t : Bool) (why : Rejection) (w : Result (List ℕ)) (bytes : List ℕ) → pick (not t) (refused why) w ≡ accepted bytes → (t ≡ true) × (w ≡ accepted bytes)
passed true why w bytes e = (refl, e)
passed false why w bytes e = absurd (let z : ◌≡◌ {A = ℕ} 0 1 = cc in omega arith)

sizes_of : (block : ℕ) (list chosen : List ℕ) → AllBytes list → sized block list ≡ true → all_below (length list / 32) chosen ≡ true → Sizes block (hashes_of list) chosen
unfolding sized hashes_of
sizes_of block list chosen h s b =
    let n = hashes-length (length list / 32) list in
    let x = and-true (leb block MAX_BLOCK) _ s in
    let y = and-true (eqb (length list % 32) 0) _ x.1 in
    let z = and-true (leb 2 (length list / 32)) _ y.1 in
    record {
      block_fits = leb-true block MAX_BLOCK x.0;
      two = rw n (leb-true 2 (length list / 32) z.0);
      few = rw n (leb-true (length list / 32) 1024 z.1);
      hashes = ids_hashes list h;
      below = λ i m. rw n (below-told (length list / 32) chosen b i m);
    }

-- what an accepted call has found, and what it writes
record Accepted (block : ℕ) (list chosen : List ℕ) (room : ℕ) (bytes : List ℕ) : Type 0 where
  pub is : bump_bytes (block_bump block (hashes_of list) chosen) ≡ bytes
  pub fits : length bytes ≤ room
  pub sizes : sized block list ≡ true
  pub below : all_below (length list / 32) chosen ≡ true
  pub different : distinct (hashes_of list) ≡ true
  pub no_twin : climbs_from (hashes_of list) chosen 0 (length list / 32) ≡ accepted tt

found_by : (block : ℕ) (list chosen : List ℕ) (room : ℕ) (bytes : List ℕ) → writing block list chosen room ≡ accepted bytes → Accepted block list chosen room bytes
unfolding writing
found_by block list chosen room bytes e =
    let ids : List (List ℕ) = hashes_of list in
    let a = passed (sized block list) _ _ bytes e in
    let b = some-chosen (none_chosen chosen) a.1 in
    let c = passed (all_below (length list / 32) chosen) _ _ bytes b in
    let d = passed (distinct ids) _ _ bytes c.1 in
    let f = climbed (climbs_from ids chosen 0 (length list / 32)) refl d.1 in
    let r = room-told room (bump_bytes (block_bump block ids chosen)) bytes f.1 in
    record { is = r.0; fits = r.1; sizes = a.0; below = c.0; different = d.0; no_twin = f.0 }
  where
    some-chosen : (t : Bool) {w : Result (List ℕ)} → pick t (refused (carrying NOT_LISTED 0)) w ≡ accepted bytes → w ≡ accepted bytes
    some-chosen true m = absurd (let z : ◌≡◌ {A = ℕ} 0 1 = cc in omega arith)
    some-chosen false m = m

    climbed : (x : Result (Unit {0})) → climbs_from (hashes_of list) chosen 0 (length list / 32) ≡ x → {w : Result (List ℕ)} → follow x (λ _. w) ≡ accepted bytes
        → (climbs_from (hashes_of list) chosen 0 (length list / 32) ≡ accepted tt) × (w ≡ accepted bytes)
    climbed (accepted u) q m = (q, m)
    climbed (refused why) q m = absurd (let z : ◌≡◌ {A = ℕ} 0 1 = cc in omega arith)

-- the bytes of an accepted call
module _ (block : ℕ) (list chosen : List ℕ) (room : ℕ) (bytes : List ℕ) (call : writing block list chosen room ≡ accepted bytes) where
  found : Accepted block list chosen room bytes
  found = found_by block list chosen room bytes call

  -- they fit the room lent
  pub written-fits : length bytes ≤ room
  written-fits = found.fits

  -- no other bytes meet the rules
  pub written-only : (s : List ℕ) → AllBytes s → Meets block (hashes_of list) chosen s → s ≡ bytes
  written-only s b m = only-bytes block (hashes_of list) chosen s b m ∙ found.is

  module _ (all : AllBytes list) where
    pub written_sizes : Sizes block (hashes_of list) chosen
    written_sizes = sizes_of block list chosen all found.sizes found.below

    -- they meet the rules
    pub written-meets : Meets block (hashes_of list) chosen bytes
    written-meets = rw (← found.is) (bump_meets written_sizes)

    no_twin_told : (i : ℕ) → holds i chosen ≡ true → reaches (tree_climb (hashes_of list) i) ≡ true
    no_twin_told i m =
        climbs-reach (hashes_of list) chosen 0 (length list / 32) i found.no_twin (omega arith) (let b = below-told (length list / 32) chosen found.below i m in omega arith)
        (rw (div-one i) at (under-chosen chosen i 0 m))

    -- read back, they prove each chosen id at its position, over the least height, to the list's root
    pub written_proves : (i : ℕ) → holds i chosen ≡ true
        → prove (bump_reading bytes (node (hashes_of list) 0 i)) ≡ accepted (proof_of (tree_siblings (hashes_of list)) (height (hashes_of list)) i (node (hashes_of list) 0 i) (root (hashes_of list)))
    written_proves i m = rw (← found.is) (chosen-proved written_sizes (read_back written_sizes) i m found.different (no_twin_told i m))

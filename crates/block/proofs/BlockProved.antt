-- "Reading it back proves each chosen id at its position to the list's root" (02, Item 1).
use mathlib.Core.Path.{◌≡◌, refl, sym, ap, ap₂, ◌∙◌}
use mathlib.Core.Bool.{Bool, true, false, ◌&&◌, ◌||◌, not, true≢false, false≢true}
use mathlib.Core.List.{List, [], ◌∷◌, map}
use Rattle.std.specs.Prelude.{Option, Some, None}
use Prim.Native.Nat.{ℕ, zero, suc, ◌+◌, ◌-◌, ◌^◌, ◌/◌, ◌≤◌, ◌<◌}
use lib.ListN.{length, get_or}
use lib.Dec.{ltb, eqb}
use lib.Pow.{shr-shr}
use native.Mathlib.Omega.{arith}
use native.Mathlib.Nat.{zero-add, div-one}
use borrow.Author.Tests.{eqb-true, eqb-false, ltb-true}
use Rattle.format.proofs.Basics.{or_true}
use Rattle.format.specs.declared.leaf.Kind.{Kind}
use Rattle.format.specs.declared.leaf.Kind.TheVariants.{Plain, Copy, Client}
use Rattle.format.specs.declared.leaf.Leaf.{Leaf}
use Rattle.format.specs.Parse.{pick}
use Rattle.format.specs.Bytes.{same}
use Rattle.format.proofs.BytesLaws.{same_eq, same_refl, eq_same}
use Rattle.format.specs.Level.{holds}
use Rattle.path.specs.Search.{carries, least_offset}
use Rattle.spv.specs.Hashes.{among}
use Rattle.spv.specs.Climb.{Siblings, sibling_position, sibling_positions}
use Rattle.spv.proofs.ClimbLaws.{ascend-agree}
use Rattle.spv.specs.Result.{accepted}
use Rattle.spv.proofs.CompareLaws.{prove_climb, prove-root}
use Rattle.spv.specs.Siblings.{level_siblings}
use Rattle.spv.specs.Readings.{starting, levels_reading, bump_reading}
use Rattle.spv.proofs.ReadingsLaws.{bump-read}
use Rattle.spv.proofs.Surplus.{carried_at, Least, least-is}
use Rattle.encoding.specs.BumpBytes.{Carried, plain, copy, client, Entry, carried_of, entry_of}
use Rattle.block.specs.Tree.{layer, size, node, height, root, tree_siblings, tree_climb, reaches}
use Rattle.block.proofs.TreeLaws.{height-holds}
use Rattle.block.proofs.TreeClimb.{climb_roots}
use Rattle.block.specs.BlockBump.{sibling_at, asked, rising, level_for, distinct}
use Rattle.block.proofs.RisingLaws.{rising_none, rising-some}
use Rattle.block.proofs.BlockFit.{Sizes, high, under-chosen, under-size, Asking, as_client, as_sibling, asked-told}
use Rattle.block.proofs.BlockMeets.{ReadBack, height_back, level_back}
use Rattle.block.proofs.BlockValues.{sibling-twice, needed_value}
use Rattle.spv.specs.Prove.{hits, proof_of, prove, any, read}

-- ---- siblings

pub sibling_positions_at : (h i m : ℕ) → m < h → get_or (sibling_positions i h) m 0 ≡ sibling_position (i / 2 ^ m)
unfolding sibling_positions
sibling_positions_at zero i m b = absurd (omega arith)
sibling_positions_at (suc h) i zero b = ap sibling_position (sym (div-one i))
sibling_positions_at (suc h) i (suc m) b = sibling_positions_at h (i / 2) m (omega arith) ∙ ap sibling_position (shr-shr i 1 m ∙ ap (λ (n : ℕ). i / 2 ^ n) (omega arith))

-- ---- where an id is carried

unfoldable pub carries_as : List ℕ → Carried → Bool
carries_as id (plain h) = same h id
carries_as id copy = false
carries_as id (client h) = same h id

unfoldable carries_any : List ℕ → Option Carried → Bool
carries_any id None = false
carries_any id (Some c) = carries_as id c

unfoldable pub carried_in : List ℕ → ℕ → List Entry → Bool
carried_in id o [] = false
carried_in id o (e ∷ l) = (eqb e.offset o && carries_as id e.carried) || carried_in id o l

kind_carries : (s id : List ℕ) (k : Kind) → carries s id k ≡ carries_as id (carried_of s k)
unfolding carries carries_as carried_of
kind_carries s id (Plain p) = refl
kind_carries s id Copy = refl
kind_carries s id (Client p) = refl

pub carried-says : (s id : List ℕ) (o : ℕ) (l : List Leaf) → carried_at s id o l ≡ carried_in id o (map (entry_of s) l)
unfolding carried_at carried_in
carried-says s id o [] = refl
carried-says s id o (leaf ∷ l) = ap₂ (λ (a b : Bool). (eqb leaf.offset o && a) || b) (kind_carries s id leaf.kind) (carried-says s id o l)

-- a leaf that carries the id is one asked for
carried-asked : (id : List ℕ) (f : ℕ → Option Carried) (n o x : ℕ) → carried_in id x (rising f o n) ≡ true → carries_any id (f x) ≡ true
unfolding rising carried_in carries_any
carried-asked id f zero o x e = absurd (false≢true e)
carried-asked id f (suc n) o x e = go (f o) refl (λ k. carried-asked id f n (o + 1) x k)
  where
    first : (c : Carried) → f o ≡ Some c → (a : Bool) → eqb o x ≡ a → (b : Bool) → carries_as id c ≡ b → ((a && b) || carried_in id x (rising f (o + 1) n)) ≡ true
        → (carried_in id x (rising f (o + 1) n) ≡ true → carries_any id (f x) ≡ true) → carries_any id (f x) ≡ true
    first c q true ea true eb m r = rw (← (eqb-true o x ea), q) eb
    first c q true ea false eb m r = r m
    first c q false ea b eb m r = r m

    go : (v : Option Carried) → f o ≡ v → (carried_in id x (rising f (o + 1) n) ≡ true → carries_any id (f x) ≡ true) → carries_any id (f x) ≡ true
    go None q r = r (rw (rising_none f o n q) at e)
    go (Some c) q r = first c q (eqb o x) refl (carries_as id c) refl (rw (rising-some f o n c q) at e) r

asked-carried : (id : List ℕ) (f : ℕ → Option Carried) (n o x : ℕ) → o ≤ x → x < o + n → carries_any id (f x) ≡ true → carried_in id x (rising f o n) ≡ true
unfolding rising carried_in carries_any
asked-carried id f zero o x a b e = absurd (omega arith)
asked-carried id f (suc n) o x a b e = go (eqb o x) refl (f o) refl (λ k. asked-carried id f n (o + 1) x k (omega arith) e)
  where
    go : (t : Bool) → eqb o x ≡ t → (v : Option Carried) → f o ≡ v → (o + 1 ≤ x → carried_in id x (rising f (o + 1) n) ≡ true) → carried_in id x (rising f o (suc n)) ≡ true
    go true h None q r =
        let d : carries_any id None ≡ true = rw (← (eqb-true o x h), q) at e in
        absurd (false≢true d)
    go true h (Some c) q r =
        let d : carries_as id c ≡ true = rw (← (eqb-true o x h), q) at e in
        rw (rising-some f o n c q) (rw (h, d))
    go false h None q r = let d = eqb-false o x h in rw (rising_none f o n q) (r (omega arith))
    go false h (Some c) q r =
        let d = eqb-false o x h in
        rw (rising-some f o n c q) (rw (r (omega arith)) (or_true (eqb o x && carries_as id c)))

-- ---- different ids

among_there : (x : List ℕ) (l : List (List ℕ)) (j : ℕ) → j < length l → get_or l j [] ≡ x → among x l ≡ true
unfolding among
among_there x [] j b e = absurd (omega arith)
among_there x (y ∷ l) zero b e = rw (eq_same y x e)
among_there x (y ∷ l) (suc j) b e = rw (among_there x l j (omega arith) e) (or_true (same y x))

pub distinct-told : (l : List (List ℕ)) → distinct l ≡ true → (i j : ℕ) → i < length l → j < length l → get_or l i [] ≡ get_or l j [] → i ≡ j
unfolding distinct
distinct-told [] e i j a b q = absurd (omega arith)
distinct-told (x ∷ l) e zero zero a b q = refl
distinct-told (x ∷ l) e zero (suc j) a b q = absurd (true≢false (sym (among_there x l j (omega arith) (sym q)) ∙ fresh (among x l) refl e))
  where
    fresh : (t : Bool) → among x l ≡ t → (not t && distinct l) ≡ true → among x l ≡ false
    fresh true h m = absurd (false≢true m)
    fresh false h m = h
distinct-told (x ∷ l) e (suc i) zero a b q = absurd (true≢false (sym (among_there x l i (omega arith) q) ∙ fresh (among x l) refl e))
  where
    fresh : (t : Bool) → among x l ≡ t → (not t && distinct l) ≡ true → among x l ≡ false
    fresh true h m = absurd (false≢true m)
    fresh false h m = h
distinct-told (x ∷ l) e (suc i) (suc j) a b q = ap suc (distinct-told l (rest (not (among x l)) e) i j (omega arith) (omega arith) q)
  where
    rest : (t : Bool) → (t && distinct l) ≡ true → distinct l ≡ true
    rest true m = m
    rest false m = absurd (false≢true m)

-- an id is carried at level 0 only at its own position
carried_own : {block : ℕ} {ids : List (List ℕ)} {chosen : List ℕ} → Sizes block ids chosen → distinct ids ≡ true → (i o : ℕ) → i < length ids
    → carries_any (node ids 0 i) (asked ids chosen 0 o) ≡ true → o ≡ i
unfolding carries_any carries_as layer sibling_at
carried_own {block} {ids} {chosen} g d i o b e = go (asked ids chosen 0 o) refl e
  where
    own : o < size ids 0 → same (node ids 0 o) (node ids 0 i) ≡ true → o ≡ i
    own l f = distinct-told ids d o i l b (same_eq _ _ f)

    of_sibling : (t : Bool) → ltb o (size ids 0) ≡ t → carries_as (node ids 0 i) (pick t (plain (node ids 0 o)) copy) ≡ true → o ≡ i
    of_sibling true h f = own (ltb-true _ _ h) f
    of_sibling false h f = absurd (false≢true f)

    way : (c : Carried) → Asking ids chosen 0 o c → carries_as (node ids 0 i) c ≡ true → o ≡ i
    way c (as_client z u is) f = own (under-size g 0 o u) (rw (← is) at f)
    way c (as_sibling u is) f = of_sibling (ltb o (size ids 0)) refl (rw (← is) at f)

    go : (v : Option Carried) → asked ids chosen 0 o ≡ v → carries_any (node ids 0 i) v ≡ true → o ≡ i
    go None q f = absurd (false≢true f)
    go (Some c) q f = way c (asked-told ids chosen 0 o c q) f

module _ {block : ℕ} {ids : List (List ℕ)} {chosen s : List ℕ} (g : Sizes block ids chosen) (r : ReadBack block ids chosen s) (i : ℕ) (m : holds i chosen ≡ true) where
  agrees : (k : ℕ) → k < height ids → level_siblings s r.bump.levels k (sibling_position (i / 2 ^ k)) ≡ tree_siblings ids k (sibling_position (i / 2 ^ k))
  agrees k b = needed_value g r k (sibling_position (i / 2 ^ k)) b (rw (sibling-twice (i / 2 ^ k)) (under-chosen chosen i k m))

  -- the id starts at its position
  starts : distinct ids ≡ true → least_offset s (node ids 0 i) (get_or r.bump.levels 0 []) ≡ Some i
  unfolding Least asked carries_any carries_as
  starts d = go (least_offset s (node ids 0 i) (get_or r.bump.levels 0 [])) (least-is s (node ids 0 i) (get_or r.bump.levels 0 []))
    where
      id : List ℕ
      id = node ids 0 i

      l : List Leaf
      l = get_or r.bump.levels 0 []

      inside : i < length ids
      inside = g.below i m

      same-carrying : (o : ℕ) → carried_at s id o l ≡ carried_in id o (level_for ids chosen (height ids) 0)
      same-carrying o = carried-says s id o l ∙ ap (carried_in id o) (level_back r 0 (high g))

      range : i < 0 + 2 ^ (height ids - 0)
      range = let e : height ids - 0 ≡ height ids = omega arith in rw (zero-add, e) (let a = height-holds (length ids) in let b = inside in omega arith)

      here : carried_at s id i l ≡ true
      here =
          same-carrying i
          ∙ asked-carried id (asked ids chosen 0) (2 ^ (height ids - 0)) 0 i (omega arith) range (rw (rw (div-one i) at (under-chosen chosen i 0 m)) (same_refl (node ids 0 i)))

      go : (x : Option ℕ) → Least s id l x → x ≡ Some i
      go None f = absurd (true≢false (sym here ∙ f i))
      go (Some j) f = ap Some (carried_own g d i j inside (carried-asked id (asked ids chosen 0) (2 ^ (height ids - 0)) 0 j (sym (same-carrying j) ∙ f.0)))

  -- the bytes prove the id at its position, over the least height, to the list's root
  pub chosen-proved : distinct ids ≡ true → reaches (tree_climb ids i) ≡ true
      → prove (bump_reading s (node ids 0 i)) ≡ accepted (proof_of (tree_siblings ids) (height ids) i (node ids 0 i) (root ids))
  unfolding levels_reading starting tree_climb hits
  chosen-proved d e =
      let id : List ℕ = node ids 0 i in
      let σ : Siblings = level_siblings s r.bump.levels in
      ap prove (bump-read s id r.bump r.end r.read)
      ∙ ap (λ (x : Option ℕ). prove (starting σ r.bump.height id x)) (starts d)
      ∙ ap (λ (n : ℕ). prove (read σ n i id any)) (height_back r)
      ∙ prove_climb σ (tree_siblings ids) (height ids) i id any
      (ascend-agree σ (tree_siblings ids) 0 (height ids) i id (λ k b. rw (zero-add k, sibling_positions_at (height ids) i k b) (agrees k b)))
      ∙ prove-root (tree_siblings ids) (height ids) i id any (root ids) (climb_roots ids i (g.below i m) e) refl

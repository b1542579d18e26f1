-- Laws of a path: how the places of its levels are found one by one, and that a search in it finds what was read.
use mathlib.Core.Path.{◌≡◌, refl, ap, sym, ◌∙◌}
use mathlib.Core.Bool.{Bool, true, false}
use mathlib.Core.List.{List, [], ◌∷◌, ◌++◌, reverse, reverse-cons}
use Prim.Native.Nat.{ℕ, zero, suc, ◌+◌, ◌-◌, ◌≤◌, ◌<◌, min}
use lib.ListN.{length, get_or, set, replicate, length-set, length-reverse, get_or-append}
use lib.Seq.{get_or-set_same, get_or-set_other, get_or_at}
use lib.Dec.{ltb}
use native.Mathlib.Omega.{arith}
use native.Mathlib.Numerals.{add-one}
use native.Mathlib.Nat.{add-zero, zero-add}
use borrow.Author.Tests.{lt-ltb, le-ltb, ltb-true, ltb-false}
use Rattle.std.specs.Prelude.{None}
use Rattle.format.specs.declared.level.Layout.{Layout}
use Rattle.format.specs.declared.leaf.Leaf.{Leaf}
use Rattle.path.specs.declared.path.Path.{Path}
use Rattle.format.specs.Parse.{Parse, many, otherwise, ok, fault}
use Rattle.format.proofs.ParseLaws.{many-told, many-length}
use Rattle.format.specs.Level.{level_of_turn, level_in_turn, next_turn, level_fields}
use Rattle.format.proofs.LevelLaws.{turn-level-below, turn-level-one}
use Rattle.format.specs.Bump.{Bump}
use Rattle.format.specs.Cmp.{Cmp}
use Rattle.format.proofs.BumpLaws.{BumpRead, CmpRead}
use Rattle.path.specs.Search.{lookup, least_offset}
use Rattle.path.proofs.SearchLaws.{leaf_of_level_lem, start_of_level_lem}
use Rattle.path.specs.Path.{LAYERS, layers_of, leaf_at_place, leaf_in, start_at_place, start_in, placing, places, bump_path_of, cmp_path_of, bump_path, cmp_path}
use Rattle.path.specs.Unchecked.{unchecked_level}
use Rattle.path.proofs.UncheckedLaws.{level_unchecked}

module _ (layout : Layout) (height : ℕ) (s : List ℕ) where
  pub placing-end : (r i at : ℕ) (known : List ℕ) → r ≡ 0 → placing layout height r i s at known ≡ known
  unfolding placing
  placing-end r i at known e = rw e

  pub placing-stop : (r i at k : ℕ) (known : List ℕ) {n q : ℕ} → 0 < r → k ≡ level_of_turn layout height i → unchecked_level layout s at ≡ fault n q
      → placing layout height r i s at known ≡ set known k at
  unfolding placing
  placing-stop zero i at k known h f e = absurd (omega arith)
  placing-stop (suc r) i at k known h f e = rw (e, f)

  pub placing_on : (r r' i at k : ℕ) (known : List ℕ) {l : List Leaf} {q : ℕ} → r ≡ r' + 1 → k ≡ level_of_turn layout height i → unchecked_level layout s at ≡ ok l q
      → placing layout height r i s at known ≡ placing layout height r' (i + 1) s q (set known k at)
  unfolding placing
  placing_on r r' i at k known h f e = rw (h, add-one, e, f)

-- a level that was read is found again at the place kept for it
module _ (layout : Layout) (height : ℕ) (s : List ℕ) where
  -- a place stays where no later level is written
  placing-keeps : (n i at : ℕ) (known : List ℕ) (k : ℕ) → ((j : ℕ) → j < n → k ≡ level_of_turn layout height (i + j) → ⊥) → get_or (placing layout height n i s at known) k 0 ≡ get_or known k 0
  unfolding placing
  placing-keeps zero i at known k h = refl
  placing-keeps (suc n) i at known k h =
      kept (unchecked_level layout s at)
      (λ q. placing-keeps n (i + 1) q (set known (level_of_turn layout height i) at) k (λ j g e. h (j + 1) (omega arith) (e ∙ ap (level_of_turn layout height) (omega arith))))
      (get_or-set_other known (level_of_turn layout height i) k at 0 (λ e. h 0 (omega arith) (e ∙ ap (level_of_turn layout height) (sym (add-zero i)))))
    where
      kept : (p : Parse (List Leaf)) → ((q : ℕ) → get_or (placing layout height n (i + 1) s q (set known (level_of_turn layout height i) at)) k 0 ≡ get_or (set known (level_of_turn layout height i) at) k 0)
          → get_or (set known (level_of_turn layout height i) at) k 0 ≡ get_or known k 0
          → get_or (otherwise p (set known (level_of_turn layout height i) at) (λ _ next. placing layout height n (i + 1) s next (set known (level_of_turn layout height i) at))) k 0 ≡ get_or known k 0
      kept (fault m q) later stays = stays
      kept (ok l q) later stays = later q ∙ stays

  places-found : (n i at : ℕ) (known : List ℕ) {ls : List (List Leaf)} {q : ℕ} → many (level_in_turn layout height) next_turn n i s at ≡ ok ls q → i + n ≡ height → height ≤ length known
      → (j k : ℕ) → j < n → k ≡ level_of_turn layout height (i + j) → (t : ℕ) × (unchecked_level layout s (get_or (placing layout height n i s at known) k 0) ≡ ok (get_or ls j []) t)
  places-found zero i at known e f g j k h w = absurd (omega arith)
  places-found (suc n) i at known {ls} e f g j k h w =
      let x = many-told (level_in_turn layout height) next_turn n i s at e in
      found x.0 x.1 x.2 (level_unchecked layout _ _ s at x.3) x.5
      (λ more g j w h. places-found n (i + 1) x.1 more x.4 (omega arith) g j k h w) j h w
    where
      known' : List ℕ
      known' = set known (level_of_turn layout height i) at

      found : (l : List Leaf) (r : ℕ) (rest : List (List Leaf)) → unchecked_level layout s at ≡ ok l r → l ∷ rest ≡ ls
          → ((more : List ℕ) → height ≤ length more → (j : ℕ) → k ≡ level_of_turn layout height (i + 1 + j) → j < n → (t : ℕ) × (unchecked_level layout s (get_or (placing layout height n (i + 1) s r more) k 0) ≡ ok (get_or rest j []) t))
          → (j : ℕ) → j < suc n → k ≡ level_of_turn layout height (i + j)
          → (t : ℕ) × (unchecked_level layout s (get_or (placing layout height (suc n) i s at known) k 0) ≡ ok (get_or ls j []) t)
      found l r rest e d later zero h w =
          let first : k ≡ level_of_turn layout height i = w ∙ ap (level_of_turn layout height) (add-zero i) in
          let below = turn-level-below layout height i (omega arith) in
          let kept = placing-keeps n (i + 1) r known' k (λ j lt v. let z = turn-level-one layout height i (i + 1 + j) (omega arith) (omega arith) (sym first ∙ v) in omega arith) in
          let there : get_or known' k 0 ≡ at = ap (λ (m : ℕ). get_or known' m 0) first ∙ get_or-set_same known (level_of_turn layout height i) at 0 (omega arith) in
          (r, rw (placing_on layout height s (suc n) n i at (level_of_turn layout height i) known (omega arith) refl e, kept ∙ there, ← d) e)
      found l r rest e d later (suc j) h w =
          let y = later known' (simp length-set g) j (w ∙ ap (level_of_turn layout height) (omega arith)) (omega arith) in
          (y.0, rw (placing_on layout height s (suc n) n i at (level_of_turn layout height i) known (omega arith) refl e, ← d) y.1)

  -- the level written in turn j is found at its level's place
  pub level-found : (at : ℕ) {ls : List (List Leaf)} {q : ℕ} → height ≤ LAYERS → level_fields layout height s at ≡ ok ls q → (j k : ℕ) → j < height → k ≡ level_of_turn layout height j
      → (t : ℕ) × (unchecked_level layout s (get_or (places layout height s at) k 0) ≡ ok (get_or ls j []) t)
  level-found at h e j k l w = places-found height 0 at (replicate LAYERS 0) e (zero-add height) h j k l (w ∙ ap (level_of_turn layout height) (sym (zero-add j)))

get_d_reverse : {A : Type 0} (l : List A) (k : ℕ) (d : A) → k < length l → get_or (reverse l) k d ≡ get_or l (length l - (k + 1)) d
get_d_reverse {A = A} [] k d h = absurd (omega arith)
get_d_reverse {A = A} (x ∷ l) k d h = ap (λ (m : List A). get_or m k d) (reverse-cons x l) ∙ either (ltb k (length l)) refl (λ lt. get_d_reverse l k d lt)
  where
    either : (b : Bool) → ltb k (length l) ≡ b → (k < length l → get_or (reverse l) k d ≡ get_or l (length l - (k + 1)) d) → get_or (reverse l ++ (x ∷ [])) k d ≡ get_or (x ∷ l) (suc (length l) - (k + 1)) d
    either true e ih =
        let lt : k < length l = ltb-true _ _ e in
        let n : suc (length l) - (k + 1) ≡ suc (length l - (k + 1)) = omega arith in
        get_or-append (reverse l) (x ∷ []) d k (rw (length-reverse l) lt) ∙ ih lt ∙ ap (λ (m : ℕ). get_or (x ∷ l) m d) (sym n)
    either false e ih =
        let ge : length l ≤ k = ltb-false _ _ e in
        let last : length l ≡ k = omega arith in
        let n : suc (length l) - (k + 1) ≡ 0 = omega arith in
        get_or_at (reverse l) x [] d k (length-reverse l ∙ last) ∙ ap (λ (m : ℕ). get_or (x ∷ l) m d) (sym n)

-- past its layers a path has nothing
pub past-layers : (s : List ℕ) (path : Path) (k j : ℕ) → path.layers ≤ k → leaf_in s path k j ≡ None
unfolding leaf_in
past-layers s path k j h = rw (le-ltb k path.layers h)

-- the searches in a BUMP's path find what was read
module _ (s : List ℕ) {q : ℕ} (b : Bump) (r : BumpRead s q b) where
  bump-level : (k : ℕ) → k < b.height → (t : ℕ) × (unchecked_level Layout.Bump s (get_or (bump_path s b).at k 0) ≡ ok (get_or b.levels k []) t)
  unfolding bump_path_of level_of_turn
  bump-level k h =
      let few : min b.height LAYERS ≡ b.height = let low = r.low in omega arith in
      rw few (level-found Layout.Bump b.height s b.start (let low = r.low in omega arith) r.levels k k h refl)

  pub bump-leaf_in : (k j : ℕ) → k < b.height → leaf_in s (bump_path s b) k j ≡ lookup j (get_or b.levels k [])
  unfolding leaf_in leaf_at_place bump_path_of
  bump-leaf_in k j h =
      let small : k < LAYERS = let low = r.low in omega arith in
      let inside : k < layers_of b.height = omega arith in
      rw (lt-ltb k (layers_of b.height) inside, lt-ltb k LAYERS small) (leaf_of_level_lem Layout.Bump s _ (bump-level k h).1 j)

  pub bump-start_in : (id : List ℕ) → start_in s (bump_path s b) id ≡ least_offset s id (get_or b.levels 0 [])
  unfolding start_in start_at_place bump_path_of
  bump-start_in id = start_of_level_lem Layout.Bump s _ (bump-level 0 r.some).1 id

-- the searches in a CMP's path find what was read
module _ (s : List ℕ) {q : ℕ} (p : Cmp) (r : CmpRead s q p) where
  cmp-level : (k : ℕ) → k < p.height → (t : ℕ) × (unchecked_level Layout.Cmp s (get_or (cmp_path s p).at k 0) ≡ ok (get_or p.levels k []) t)
  unfolding cmp_path_of level_of_turn
  cmp-level k h =
      let few : min p.height LAYERS ≡ p.height = let low = r.low in omega arith in
      let x = level-found Layout.Cmp p.height s p.start (let low = r.low in omega arith) r.levels.1 (p.height - (k + 1)) k (omega arith) (omega arith) in
      rw few (x.0, x.1 ∙ ap (λ (l : List Leaf). ok l x.0) (turned r.levels.0 (many-length _ _ _ _ s p.start r.levels.1) r.levels.2))
    where
      turned : (down : List (List Leaf)) → length down ≡ p.height → reverse down ≡ p.levels → get_or down (p.height - (k + 1)) [] ≡ get_or p.levels k []
      turned down e f =
          ap (λ (n : ℕ). get_or down (n - (k + 1)) []) (sym e) ∙ sym (get_d_reverse down k [] (omega arith)) ∙ ap (λ (l : List (List Leaf)). get_or l k []) f

  pub cmp-leaf_in : (k j : ℕ) → k < p.height → leaf_in s (cmp_path s p) k j ≡ lookup j (get_or p.levels k [])
  unfolding leaf_in leaf_at_place cmp_path_of
  cmp-leaf_in k j h =
      let small : k < LAYERS = let low = r.low in omega arith in
      let inside : k < layers_of p.height = omega arith in
      rw (lt-ltb k (layers_of p.height) inside, lt-ltb k LAYERS small) (leaf_of_level_lem Layout.Cmp s _ (cmp-level k h).1 j)

  pub cmp-start_in : (id : List ℕ) → start_in s (cmp_path s p) id ≡ least_offset s id (get_or p.levels 0 [])
  unfolding start_in start_at_place cmp_path_of
  cmp-start_in id = start_of_level_lem Layout.Cmp s _ (cmp-level 0 r.some).1 id

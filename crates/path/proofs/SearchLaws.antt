-- Laws of the searches: how they go on from leaf to leaf, and that they find what was read.
use mathlib.Core.Path.{◌≡◌, refl, ap, sym, ◌∙◌}
use mathlib.Core.List.{List, [], ◌∷◌}
use Prim.Native.Nat.{ℕ, zero, suc, ◌+◌, ◌<◌}
use lib.ListN.{length}
use native.Mathlib.Omega.{arith}
use native.Mathlib.Numerals.{add-one}
use borrow.Author.Tests.{eq-eqb, ne_eqb}
use Rattle.std.specs.Prelude.{Option, Some, None}
use Rattle.format.specs.declared.level.Layout.{Layout}
use Rattle.format.specs.declared.leaf.Leaf.{Leaf}
use Rattle.format.specs.Parse.{many, times, ok, fault}
use Rattle.format.proofs.ParseLaws.{onward-told, many-told, many-length}
use Rattle.format.specs.Field.{varint}
use Rattle.path.specs.Search.{lookup, leaf_start, lesser, least_offset, seek, leaf_of_level, seek_id, start_of_level}
use Rattle.path.specs.Unchecked.{unchecked_leaf, unchecked_level}

-- a search for the offset j among r leaves
module _ (layout : Layout) (j : ℕ) (s : List ℕ) where
  pub seek-end : (r at : ℕ) → r ≡ 0 → seek layout j r s at ≡ None
  unfolding seek
  seek-end r at e = rw e

  pub seek_stop : (r at : ℕ) {n q : ℕ} → 0 < r → unchecked_leaf layout s at ≡ fault n q → seek layout j r s at ≡ None
  unfolding seek
  seek_stop zero at h e = refl
  seek_stop (suc r) at h e = rw e

  pub seek-here : (r at : ℕ) {leaf : Leaf} {q : ℕ} → 0 < r → unchecked_leaf layout s at ≡ ok leaf q → leaf.offset ≡ j → seek layout j r s at ≡ Some leaf.kind
  unfolding seek
  seek-here zero at h e f = absurd (omega arith)
  seek-here (suc r) at h e f = rw (e, eq-eqb _ _ f)

  pub seek_on : (r r' at : ℕ) {leaf : Leaf} {q : ℕ} → r ≡ r' + 1 → unchecked_leaf layout s at ≡ ok leaf q → (leaf.offset ≡ j → ⊥) → seek layout j r s at ≡ seek layout j r' s q
  unfolding seek
  seek_on r r' at h e f = rw (h, add-one, e, ne_eqb _ _ f)

  pub seek_found : (n : ℕ) (at : ℕ) {l : List Leaf} {q : ℕ} → times (unchecked_leaf layout) n s at ≡ ok l q → seek layout j n s at ≡ lookup j l
  unfolding seek lookup many
  seek_found zero at {l} e = let z : [] ≡ l = cc in ap (lookup j) z
  seek_found (suc n) at {l} e =
      let x = many-told (λ _. unchecked_leaf layout) (λ u _. u) n tt s at e in
      found x.0 x.1 x.2 x.3 (seek_found n x.1 x.4) x.5
    where
      found : (leaf : Leaf) (r : ℕ) (rest : List Leaf) → unchecked_leaf layout s at ≡ ok leaf r → seek layout j n s r ≡ lookup j rest → leaf ∷ rest ≡ l → seek layout j (suc n) s at ≡ lookup j l
      found leaf r rest e f g = rw (e, f, ← g)

nowhere_lesser : (a : Option ℕ) → lesser None a ≡ a
unfolding lesser
nowhere_lesser a = refl

pub lesser_nowhere : (a : Option ℕ) → lesser a None ≡ a
unfolding lesser
lesser_nowhere None = refl
lesser_nowhere (Some x) = refl

-- a search for the least offset that carries an id
module _ (layout : Layout) (id : List ℕ) (s : List ℕ) where
  pub least-end : (r at : ℕ) (best : Option ℕ) → r ≡ 0 → seek_id layout id r s at best ≡ best
  unfolding seek_id
  least-end r at best e = rw e

  pub least-stop : (r at : ℕ) (best : Option ℕ) {n q : ℕ} → 0 < r → unchecked_leaf layout s at ≡ fault n q → seek_id layout id r s at best ≡ None
  unfolding seek_id
  least-stop zero at best h e = absurd (omega arith)
  least-stop (suc r) at best h e = rw e

  pub least_on : (r r' at : ℕ) (best best' : Option ℕ) {leaf : Leaf} {q : ℕ} → r ≡ r' + 1 → unchecked_leaf layout s at ≡ ok leaf q → best' ≡ lesser best (leaf_start s id leaf)
      → seek_id layout id r s at best ≡ seek_id layout id r' s q best'
  unfolding seek_id
  least_on r r' at best best' h e f = rw (h, add-one, e, f)

  -- the lesser of three, in either order
  lesser_assoc : (a b c : Option ℕ) → lesser (lesser a b) c ≡ lesser a (lesser b c)
  unfolding lesser
  lesser_assoc None b c = refl
  lesser_assoc (Some x) None c = refl
  lesser_assoc (Some x) (Some y) None = refl
  lesser_assoc (Some x) (Some y) (Some z) = ap Some (omega arith)

  pub least-found : (n : ℕ) (at : ℕ) (best : Option ℕ) {l : List Leaf} {q : ℕ} → times (unchecked_leaf layout) n s at ≡ ok l q → seek_id layout id n s at best ≡ lesser best (least_offset s id l)
  unfolding seek_id least_offset many
  least-found zero at best {l} e = let z : [] ≡ l = cc in sym (ap (λ (m : List Leaf). lesser best (least_offset s id m)) (sym z) ∙ lesser_nowhere best)
  least-found (suc n) at best {l} e =
      let x = many-told (λ _. unchecked_leaf layout) (λ u _. u) n tt s at e in
      found x.0 x.1 x.2 x.3 (least-found n x.1 (lesser best (leaf_start s id x.0)) x.4) x.5
    where
      found : (leaf : Leaf) (r : ℕ) (rest : List Leaf) → unchecked_leaf layout s at ≡ ok leaf r
          → seek_id layout id n s r (lesser best (leaf_start s id leaf)) ≡ lesser (lesser best (leaf_start s id leaf)) (least_offset s id rest) → leaf ∷ rest ≡ l
          → seek_id layout id (suc n) s at best ≡ lesser best (least_offset s id l)
      found leaf r rest e f g = rw (e, f, ← g) (lesser_assoc best (leaf_start s id leaf) (least_offset s id rest))

-- a search in a level that was read finds what was read
module _ (layout : Layout) (s : List ℕ) (at : ℕ) {l : List Leaf} {q : ℕ} (e : unchecked_level layout s at ≡ ok l q) where
  pub leaf_of_level_lem : (j : ℕ) → leaf_of_level layout s at j ≡ lookup j l
  unfolding unchecked_level leaf_of_level
  leaf_of_level_lem j =
      let x = onward-told (varint s at) _ e in
      rw x.2 (seek_found layout j s x.0 x.1 x.3)

  pub start_of_level_lem : (id : List ℕ) → start_of_level layout s at id ≡ least_offset s id l
  unfolding unchecked_level start_of_level
  start_of_level_lem id =
      let x = onward-told (varint s at) _ e in
      rw x.2 (least-found layout id s x.0 x.1 None x.3 ∙ nowhere_lesser (least_offset s id l))

-- the level as a walk meets it: its count, then its leaves one after the other
pub level-walk : (layout : Layout) (s : List ℕ) (at : ℕ) {l : List Leaf} {q : ℕ} → unchecked_level layout s at ≡ ok l q
    → (first : ℕ) × (varint s at ≡ ok (length l) first) × (times (unchecked_leaf layout) (length l) s first ≡ ok l q)
unfolding unchecked_level
level-walk layout s at {l} {q} e =
    let x = onward-told (varint s at) _ e in
    walk x.0 x.1 x.2 x.3
  where
    walk : (n first : ℕ) → varint s at ≡ ok n first → times (unchecked_leaf layout) n s first ≡ ok l q
        → (first : ℕ) × (varint s at ≡ ok (length l) first) × (times (unchecked_leaf layout) (length l) s first ≡ ok l q)
    walk n first e f = rw (many-length (λ _. unchecked_leaf layout) (λ u _. u) n tt s first f) (first, e, f)

-- Laws of the leaves of a level by their places.
use Rattle.std.proofs.Common.{Some, None}
use mathlib.Core.Path.{◌≡◌, refl, ap, sym, subst, ◌∙◌}
use mathlib.Core.List.{List, [], ◌∷◌}
use mathlib.Core.Bool.{Bool, true, false, not, ◌||◌, false≢true}
use Prim.Native.Nat.{ℕ, zero, suc, ◌<◌, ◌≤◌}
use lib.ListN.{length}
use lib.Dec.{leb, ltb, eqb}
use borrow.Author.Tests.{eq-eqb, ne_eqb, leb-true, ltb-true}
use Rattle.format.specs.declared.level.Layout.{Layout}
use Rattle.format.specs.declared.leaf.Leaf.{Leaf}
use Rattle.format.proofs.Basics.{or_true}
use Rattle.format.specs.Parse.{pick, many, times, ◌passing◌else◌, ok, fault}
use Rattle.format.proofs.ParseLaws.{onward-told, passing_told, many-told}
use Rattle.format.specs.Field.{varint}
use Rattle.format.specs.Refusals.{BAD_OFFSET, REPEATED, OVER_LIMIT, MAX_LEAVES}
use Rattle.format.specs.Level.{holds, offset_field, carried_field, leaf_field, and_offset, level_field}
use Rattle.format.proofs.LevelLaws.{holds_snoc}
use Rattle.path.specs.Search.{lookup}
use Rattle.path.specs.Unchecked.{unchecked_carried, unchecked_leaf, unchecked_level}
use Rattle.path.proofs.UncheckedLaws.{leaf_unchecked}
use Rattle.path.proofs.SearchLaws.{level-walk}
use Rattle.encoding.specs.BumpBytes.{carried_of}
use Rattle.spv.specs.Marks.{after}
use Rattle.levels.specs.Places.{offset_at, carried_at, leaf_places, level_leaves, next_level, leaf_there}
use Rattle.levels.specs.Order.{locate}
use Rattle.levels.proofs.OrderLaws.{Distinct}

pub offset-none : (s : List ℕ) (p : ℕ) {k q : ℕ} → varint s p ≡ fault k q → offset_at s p ≡ 0
unfolding offset_at
offset-none s p e = rw e

pub offset_read : (s : List ℕ) (p : ℕ) {n q : ℕ} → varint s p ≡ ok n q → offset_at s p ≡ n
unfolding offset_at
offset_read s p e = rw e

-- what a leaf was read by
pub leaf-read : (limit level : ℕ) (seen s : List ℕ) (p : ℕ) {leaf : Leaf} {q : ℕ} → leaf_field Layout.Bump limit level seen s p ≡ ok leaf q
    → (leaf.offset < limit) × (holds leaf.offset seen ≡ false) × (offset_at s p ≡ leaf.offset) × (carried_at s p ≡ carried_of s leaf.kind)
unfolding leaf_field offset_field offset_at carried_at
leaf-read limit level seen s p {leaf} {q} e =
    let x = onward-told (offset_field limit seen s p) _ e in
    let y = onward-told (carried_field Layout.Bump level x.0 s x.1) _ x.3 in
    let o = passing_told (varint passing (λ o. ltb o limit) else BAD_OFFSET) (λ o. not (holds o seen)) REPEATED s p x.2 in
    let v = passing_told varint (λ o. ltb o limit) BAD_OFFSET s p o.0 in
    let same : x.0 ≡ leaf.offset = cc in
    let unchecked = leaf_unchecked Layout.Bump limit level seen s p e in
    (rw (← same) (ltb-true x.0 limit v.1), rw (← same) (fresh (holds x.0 seen) o.1), rw v.0 same, rw unchecked refl)
  where
    fresh : (b : Bool) → not b ≡ true → b ≡ false
    fresh true f = absurd (false≢true f)
    fresh false f = refl

module _ (s : List ℕ) where
  leaf-offset : (at : ℕ) {leaf : Leaf} {r : ℕ} → unchecked_leaf Layout.Bump s at ≡ ok leaf r → offset_at s at ≡ leaf.offset
  unfolding unchecked_leaf offset_at
  leaf-offset at {leaf} {r} e =
      let x = onward-told (varint s at) _ e in
      let y = onward-told (unchecked_carried Layout.Bump s x.1) _ x.3 in
      let same : x.0 ≡ leaf.offset = cc in
      rw x.2 same

  -- leaves that were read stand at their places
  record Leaves (n at : ℕ) (l : List Leaf) (q : ℕ) : Type 0 where
    found : (o : ℕ) → leaf_there s (locate (offset_at s) o (leaf_places s n at)) ≡ lookup o l
    ends : after Layout.Bump s n at ≡ q
    size : length (leaf_places s n at) ≡ length l

  leaves-read : (n at : ℕ) {l : List Leaf} {q : ℕ} → times (unchecked_leaf Layout.Bump) n s at ≡ ok l q → Leaves n at l q
  unfolding many locate leaf_there lookup leaf_places after
  leaves-read zero at {l} {q} e =
      let z : [] ≡ l = cc in
      let k : at ≡ q = cc in
      rw (← z, ← k) (record { found = λ o. refl; ends = refl; size = refl })
  leaves-read (suc n) at {l} {q} e =
      let x = many-told (λ _. unchecked_leaf Layout.Bump) (λ u _. u) n tt s at e in
      subst (λ (v : List Leaf). Leaves (suc n) at v q) x.5 (more x.0 x.1 x.2 x.3 (leaves-read n x.1 x.4))
    where
      more : (leaf : Leaf) (r : ℕ) (rest : List Leaf) → unchecked_leaf Layout.Bump s at ≡ ok leaf r → Leaves n r rest q → Leaves (suc n) at (leaf ∷ rest) q
      more leaf r rest f g =
          record {
            found = λ o. rw (f, leaf-offset at f) (here o (eqb leaf.offset o));
            ends = rw f g.ends;
            size = rw f (ap suc g.size);
          }
        where
          here : (o : ℕ) (b : Bool) → leaf_there s (pick b (Some at) (locate (offset_at s) o (leaf_places s n r))) ≡ pick b (Some leaf.kind) (lookup o rest)
          here o true = rw f
          here o false = g.found o

  -- a level that was read
  pub record Level (at : ℕ) (l : List Leaf) (q : ℕ) : Type 0 where
    pub found : (o : ℕ) → leaf_there s (locate (offset_at s) o (level_leaves s at)) ≡ lookup o l
    pub ends : next_level s at ≡ q
    pub size : length (level_leaves s at) ≡ length l

  pub level-read : (at : ℕ) {l : List Leaf} {q : ℕ} → unchecked_level Layout.Bump s at ≡ ok l q → Level at l q
  unfolding level_leaves next_level
  level-read at {l} {q} e =
      let x = level-walk Layout.Bump s at e in
      let r = leaves-read (length l) x.0 x.2 in
      record { found = λ o. rw x.1 (r.found o); ends = rw x.1 r.ends; size = rw x.1 r.size }

  -- no offset stands twice in a level that was read
  seen_or : (o : ℕ) (seen : List ℕ) (leaf : Leaf) → holds o seen ≡ true → holds o (and_offset seen leaf) ≡ true
  seen_or o seen leaf e = holds_snoc o seen leaf.offset ∙ ap (λ (b : Bool). b || eqb o leaf.offset) e

  leaves-distinct : (limit level n : ℕ) (seen : List ℕ) (p : ℕ) {l : List Leaf} {q : ℕ} → many (leaf_field Layout.Bump limit level) and_offset n seen s p ≡ ok l q
      → Distinct (offset_at s) (leaf_places s n p) × ((o : ℕ) → holds o seen ≡ true → locate (offset_at s) o (leaf_places s n p) ≡ None)
  unfolding many Distinct leaf_places locate
  leaves-distinct limit level zero seen p e = (tt, λ o h. refl)
  leaves-distinct limit level (suc n) seen p e =
      let x = many-told (leaf_field Layout.Bump limit level) and_offset n seen s p e in
      let t = leaf-read limit level seen s p x.3 in
      let r = leaves-distinct limit level n (and_offset seen x.0) x.1 x.4 in
      let own : holds x.0.offset (and_offset seen x.0) ≡ true =
      holds_snoc x.0.offset seen x.0.offset ∙ ap (λ (b : Bool). holds x.0.offset seen || b) (eq-eqb x.0.offset x.0.offset refl) ∙ or_true (holds x.0.offset seen) in
      rw (leaf_unchecked Layout.Bump limit level seen s p x.3) (
        (rw t.2 (r.1 x.0.offset own), r.0),
        λ o h. ap (λ (b : Bool). pick b (Some p) (locate (offset_at s) o (leaf_places s n x.1))) (ne_eqb (offset_at s p) o (other o x.0.offset h t.1 t.2)) ∙ r.1 o (seen_or o seen x.0 h),
      )
    where
      other : (o j : ℕ) → holds o seen ≡ true → holds j seen ≡ false → offset_at s p ≡ j → offset_at s p ≡ o → ⊥
      other o j h g m i = false≢true (sym g ∙ ap (λ (k : ℕ). holds k seen) (sym m ∙ i) ∙ h)

  pub level-distinct : (limit level at : ℕ) {l : List Leaf} {q : ℕ} → level_field Layout.Bump limit level s at ≡ ok l q → Distinct (offset_at s) (level_leaves s at)
  unfolding level_field level_leaves
  level-distinct limit level at e =
      let y = onward-told ((varint passing (λ m. leb m MAX_LEAVES) else OVER_LIMIT) s at) _ e in
      let v = passing_told varint (λ m. leb m MAX_LEAVES) OVER_LIMIT s at y.2 in
      rw v.0 (leaves-distinct limit level y.0 [] y.1 y.3).0

  pub level-few : (limit level at : ℕ) {l : List Leaf} {q : ℕ} → level_field Layout.Bump limit level s at ≡ ok l q → (m : ℕ) × (first : ℕ) × (varint s at ≡ ok m first) × (m ≤ MAX_LEAVES)
  unfolding level_field
  level-few limit level at e =
      let y = onward-told ((varint passing (λ m. leb m MAX_LEAVES) else OVER_LIMIT) s at) _ e in
      let v = passing_told varint (λ m. leb m MAX_LEAVES) OVER_LIMIT s at y.2 in
      (y.0, y.1, v.0, leb-true y.0 MAX_LEAVES v.1)

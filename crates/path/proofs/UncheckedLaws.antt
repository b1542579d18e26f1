-- What was read is found again without its tests.
use mathlib.Core.Path.{◌≡◌}
use mathlib.Core.List.{List, []}
use mathlib.Core.Bool.{not}
use Prim.Native.Nat.{ℕ}
use lib.Dec.{ltb, leb}
use Rattle.format.specs.declared.level.Layout.{Layout}
use Rattle.format.specs.declared.leaf.Leaf.{Leaf}
use Rattle.format.specs.declared.leaf.Kind.{Kind}
use Rattle.format.specs.Parse.{◌passing◌else◌, ok}
use Rattle.format.proofs.ParseLaws.{passing_told, onward-told, many_unchecked}
use Rattle.format.specs.Field.{byte, varint}
use Rattle.format.specs.Level.{holds, offset_field, flag_allowed, flag_field, carried_field, leaf_field, and_offset, level_field}
use Rattle.format.specs.Refusals.{OVER_LIMIT, BAD_OFFSET, BAD_FLAG, REPEATED, MAX_LEAVES}
use Rattle.path.specs.Unchecked.{unchecked_carried, unchecked_leaf, unchecked_level}

-- what is read by a layout is read the same without its tests
pub carried_unchecked : (layout : Layout) (level offset : ℕ) (s : List ℕ) (at : ℕ) {kind : Kind} {q : ℕ} → carried_field layout level offset s at ≡ ok kind q → unchecked_carried layout s at ≡ ok kind q
unfolding carried_field unchecked_carried flag_field
carried_unchecked Layout.Bump level offset s at e =
    let x = onward-told (flag_field level offset s at) _ e in
    let f = passing_told byte (λ f. flag_allowed level offset f) BAD_FLAG s at x.2 in
    rw f.0 x.3
carried_unchecked Layout.Cmp level offset s at e = e

pub leaf_unchecked : (layout : Layout) (limit level : ℕ) (seen s : List ℕ) (at : ℕ) {leaf : Leaf} {q : ℕ} → leaf_field layout limit level seen s at ≡ ok leaf q → unchecked_leaf layout s at ≡ ok leaf q
unfolding leaf_field unchecked_leaf offset_field
leaf_unchecked layout limit level seen s at e =
    let x = onward-told (offset_field limit seen s at) _ e in
    let y = onward-told (carried_field layout level x.0 s x.1) _ x.3 in
    let o = passing_told (varint passing (λ o. ltb o limit) else BAD_OFFSET) (λ o. not (holds o seen)) REPEATED s at x.2 in
    let v = passing_told varint (λ o. ltb o limit) BAD_OFFSET s at o.0 in
    rw (v.0, carried_unchecked layout level x.0 s x.1 y.2) y.3

pub level_unchecked : (layout : Layout) (limit level : ℕ) (s : List ℕ) (at : ℕ) {l : List Leaf} {q : ℕ} → level_field layout limit level s at ≡ ok l q → unchecked_level layout s at ≡ ok l q
unfolding level_field unchecked_level
level_unchecked layout limit level s at e =
    let x = onward-told ((varint passing (λ n. leb n MAX_LEAVES) else OVER_LIMIT) s at) _ e in
    let v = passing_told varint (λ n. leb n MAX_LEAVES) OVER_LIMIT s at x.2 in
    rw v.0
    (many_unchecked (leaf_field layout limit level) and_offset (λ _. unchecked_leaf layout) (λ u _. u) s (λ seen _ at' _ _ h. leaf_unchecked layout limit level seen s at' h) x.0 [] tt x.1 x.3)

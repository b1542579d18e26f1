-- Of a BUMP or CMP that was read, copies stand at odd offsets only (01, "Layouts").
use Prim.Native.Nat.{ℕ, zero, suc, ◌+◌, ◌%◌}
use mathlib.Core.Path.{◌≡◌, refl, sym, ◌∙◌, subst}
use mathlib.Core.Bool.{Bool, true, false, ◌&&◌, ◌||◌}
use mathlib.Core.List.{List, [], ◌∷◌, ◌++◌, reverse, reverse-cons}
use lib.ListN.{get_or}
use lib.Dec.{eqb, leb}
use native.Mathlib.Omega.{arith}
use borrow.Author.Tests.{eqb-true}
use Rattle.format.specs.declared.level.Layout.{Layout}
use Rattle.format.specs.declared.leaf.Leaf.{Leaf}
use Rattle.format.specs.declared.leaf.Kind.{Kind}
use Rattle.format.specs.declared.leaf.Kind.TheVariants.{Plain, Copy, Client}
use Rattle.std.specs.Prelude.{Some}
use Rattle.format.specs.Parse.{Parse, ok, pick, given, many, ◌passing◌else◌}
use Rattle.format.proofs.ParseLaws.{each-ok, onward-told, passing_told, many-told}
use Rattle.format.specs.Field.{bytes, byte, varint}
use Rattle.format.specs.Level.{flag_allowed, flag_field, kind_field, offset_field, carried_field, leaf_field, level_field, level_in_turn, next_turn, and_offset}
use Rattle.format.specs.Refusals.{BAD_FLAG, OVER_LIMIT, MAX_LEAVES}
use Rattle.format.specs.Bump.{Bump, bump_whole}
use Rattle.format.proofs.BumpLaws.{bump-whole-told, cmp-whole-told}
use Rattle.format.specs.Cmp.{Cmp, cmp_whole}
use Rattle.path.specs.Search.{lookup}
use Rattle.spv.specs.Climb.{copied, Siblings}
use Rattle.spv.specs.Siblings.{written, sibling, written_by, find_in}

-- "01 stands only at an odd offset"
abbrev pub OddCopies : Siblings → Type 0
OddCopies w = (k q : ℕ) → w k q ≡ copied → q % 2 ≡ 1

-- ---- what reading has tested

unfoldable OddLeaf : Leaf → Type 0
OddLeaf leaf = leaf.kind ≡ Copy → leaf.offset % 2 ≡ 1

unfoldable OddLeaves : List Leaf → Type 0
OddLeaves [] = Unit
OddLeaves (leaf ∷ l) = OddLeaf leaf × OddLeaves l

unfoldable OddLevels : List (List Leaf) → Type 0
OddLevels [] = Unit
OddLevels (l ∷ ls) = OddLeaves l × OddLevels ls

-- 32 bytes are no copy
given-plain : (s : List ℕ) (at : ℕ) {kind : Kind} {q : ℕ} → given Plain (bytes 32) s at ≡ ok kind q → kind ≡ Copy → ⊥
given-plain s at e c = let x = each-ok Plain (bytes 32 s at) e in let y = x.2 ∙ c in let z : ◌≡◌ {A = ℕ} 0 1 = cc in omega arith

given-client : (s : List ℕ) (at : ℕ) {kind : Kind} {q : ℕ} → given Client (bytes 32) s at ≡ ok kind q → kind ≡ Copy → ⊥
given-client s at e c = let x = each-ok Client (bytes 32 s at) e in let y = x.2 ∙ c in let z : ◌≡◌ {A = ℕ} 0 1 = cc in omega arith

kind_odd : (level offset flag : ℕ) (s : List ℕ) (at : ℕ) {kind : Kind} {q : ℕ} → flag_allowed level offset flag ≡ true → kind_field flag s at ≡ ok kind q → kind ≡ Copy → offset % 2 ≡ 1
unfolding kind_field
kind_odd level offset flag s at {kind} {q} a e c = go (eqb flag 0) refl (eqb flag 1) refl (eqb (offset % 2) 1) refl a e
  where
    two : (eqb flag 2 && eqb level 0) ≡ true → eqb flag 1 ≡ true → ⊥
    two f g = flagged (eqb flag 2) refl f
      where
        flagged : (t : Bool) → eqb flag 2 ≡ t → (t && eqb level 0) ≡ true → ⊥
        flagged true h f = omega (arith, eqb-true flag 2 h, eqb-true flag 1 g)
        flagged false h f = let z : ◌≡◌ {A = ℕ} 0 1 = cc in omega arith

    go : (x : Bool) → eqb flag 0 ≡ x → (y : Bool) → eqb flag 1 ≡ y → (o : Bool) → eqb (offset % 2) 1 ≡ o → (x || (y && o) || (eqb flag 2 && eqb level 0)) ≡ true
        → pick x (given Plain (bytes 32)) (pick y (λ s at. ok Copy at) (given Client (bytes 32))) s at ≡ ok kind q → offset % 2 ≡ 1
    go true hx y hy o ho a e = absurd (given-plain s at e c)
    go false hx true hy true ho a e = eqb-true (offset % 2) 1 ho
    go false hx true hy false ho a e = absurd (two a hy)
    go false hx false hy o ho a e = absurd (given-client s at e c)

carried-odd : (layout : Layout) (level offset : ℕ) (s : List ℕ) (at : ℕ) {kind : Kind} {q : ℕ} → carried_field layout level offset s at ≡ ok kind q → kind ≡ Copy → offset % 2 ≡ 1
unfolding carried_field flag_field
carried-odd Layout.Bump level offset s at e c =
    let x = onward-told (flag_field level offset s at) _ e in
    let f = passing_told byte (λ f. flag_allowed level offset f) BAD_FLAG s at x.2 in
    kind_odd level offset x.0 s x.1 f.1 x.3 c
carried-odd Layout.Cmp level offset s at e c = absurd (given-plain s at e c)

leaf-odd : (layout : Layout) (limit level : ℕ) (seen s : List ℕ) (at : ℕ) {leaf : Leaf} {q : ℕ} → leaf_field layout limit level seen s at ≡ ok leaf q → OddLeaf leaf
unfolding leaf_field OddLeaf
leaf-odd layout limit level seen s at {leaf} {q} e =
    let x = onward-told (offset_field limit seen s at) _ e in
    let y = onward-told (carried_field layout level x.0 s x.1) _ x.3 in
    built x.0 y.0 y.1 (carried-odd layout level x.0 s x.1 y.2) y.3
  where
    built : (o : ℕ) (kind : Kind) (r : ℕ) → (kind ≡ Copy → o % 2 ≡ 1) → ◌≡◌ {A = Parse Leaf} (ok (record { offset = o; kind = kind }) r) (ok leaf q) → leaf.kind ≡ Copy → leaf.offset % 2 ≡ 1
    built o kind r h is = let z : record { offset = o; kind = kind } ≡ leaf = cc in rw (← z) h

leaves-odd : (layout : Layout) (limit level n : ℕ) (seen s : List ℕ) (at : ℕ) {l : List Leaf} {q : ℕ} → many (leaf_field layout limit level) and_offset n seen s at ≡ ok l q → OddLeaves l
unfolding OddLeaves many
leaves-odd layout limit level zero seen s at {l} {q} e = let z : [] ≡ l = cc in subst OddLeaves z tt
leaves-odd layout limit level (suc n) seen s at {l} {q} e =
    let x = many-told (leaf_field layout limit level) and_offset n seen s at e in
    subst OddLeaves x.5 (leaf-odd layout limit level seen s at x.3, leaves-odd layout limit level n (and_offset seen x.0) s x.1 x.4)

level-odd : (layout : Layout) (limit level : ℕ) (s : List ℕ) (at : ℕ) {l : List Leaf} {q : ℕ} → level_field layout limit level s at ≡ ok l q → OddLeaves l
unfolding level_field
level-odd layout limit level s at e =
    let x = onward-told ((varint passing (λ n. leb n MAX_LEAVES) else OVER_LIMIT) s at) _ e in
    leaves-odd layout limit level x.0 [] s x.1 x.3

levels-odd : (layout : Layout) (height n i : ℕ) (s : List ℕ) (at : ℕ) {ls : List (List Leaf)} {q : ℕ} → many (level_in_turn layout height) next_turn n i s at ≡ ok ls q → OddLevels ls
unfolding OddLevels many
levels-odd layout height zero i s at {ls} e = let z : [] ≡ ls = cc in subst OddLevels z tt
levels-odd layout height (suc n) i s at {ls} e =
    let x = many-told (level_in_turn layout height) next_turn n i s at e in
    subst OddLevels x.5 (level-odd layout _ _ s at x.3, levels-odd layout height n (i + 1) s x.1 x.4)

-- ---- turned round

snoc_odd : (ls : List (List Leaf)) (l : List Leaf) → OddLevels ls → OddLeaves l → OddLevels (ls ++ (l ∷ []))
unfolding OddLevels
snoc_odd [] l h g = (g, tt)
snoc_odd (x ∷ ls) l h g = (h.0, snoc_odd ls l h.1 g)

reverse-odd : (ls : List (List Leaf)) → OddLevels ls → OddLevels (reverse ls)
unfolding OddLevels
reverse-odd [] h = tt
reverse-odd (l ∷ ls) h = subst OddLevels (sym (reverse-cons l ls)) (snoc_odd (reverse ls) l (reverse-odd ls h.1) h.0)

-- ---- what is found

level-at : (ls : List (List Leaf)) → OddLevels ls → (k : ℕ) → OddLeaves (get_or ls k [])
unfolding OddLevels OddLeaves
level-at [] h k = tt
level-at (l ∷ ls) h zero = h.0
level-at (l ∷ ls) h (suc k) = level-at ls h.1 k

found-odd : (s : List ℕ) (q : ℕ) (l : List Leaf) → OddLeaves l → sibling s (lookup q l) ≡ copied → q % 2 ≡ 1
unfolding OddLeaves OddLeaf lookup sibling written
found-odd s q [] h e = absurd (let z : ◌≡◌ {A = ℕ} 0 1 = cc in omega arith)
found-odd s q (leaf ∷ l) h e = go (eqb leaf.offset q) refl e (λ f. found-odd s q l h.1 f)
  where
    here : (kind : Kind) → leaf.kind ≡ kind → eqb leaf.offset q ≡ true → written s kind ≡ copied → q % 2 ≡ 1
    here (Plain p) i t f = absurd (let z : ◌≡◌ {A = ℕ} 0 1 = cc in omega arith)
    here Copy i t f = rw (← (eqb-true leaf.offset q t)) (h.0 i)
    here (Client p) i t f = absurd (let z : ◌≡◌ {A = ℕ} 0 1 = cc in omega arith)

    go : (t : Bool) → eqb leaf.offset q ≡ t → sibling s (pick t (Some leaf.kind) (lookup q l)) ≡ copied → (sibling s (lookup q l) ≡ copied → q % 2 ≡ 1) → q % 2 ≡ 1
    go true t f r = here leaf.kind refl t f
    go false t f r = r f

levels_copies : (s : List ℕ) (ls : List (List Leaf)) → OddLevels ls → OddCopies (written_by s (find_in ls))
levels_copies s ls h k q e = found-odd s q (get_or ls k []) (level-at ls h k) e

pub bump_copies : (s : List ℕ) (b : Bump) (q : ℕ) → bump_whole s ≡ ok b q → OddCopies (written_by s (find_in b.levels))
bump_copies s b q e = levels_copies s b.levels (levels-odd Layout.Bump b.height b.height 0 s b.start (bump-whole-told s e).levels)

pub cmp_copies : (s : List ℕ) (p : Cmp) (q : ℕ) → cmp_whole s ≡ ok p q → OddCopies (written_by s (find_in p.levels))
cmp_copies s p q e =
    let r = (cmp-whole-told s e).levels in
    levels_copies s p.levels (subst OddLevels r.2 (reverse-odd r.0 (levels-odd Layout.Cmp p.height p.height 0 s p.start r.1)))

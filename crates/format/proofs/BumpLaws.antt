-- Laws of BUMP and CMP as wholes: their answers by their fields, and what is known of one that was read.
use mathlib.Core.Path.{◌≡◌, refl, ap, ◌∙◌}
use mathlib.Core.List.{List, reverse}
use mathlib.Core.Bool.{◌&&◌}
use Prim.Native.Nat.{ℕ, ◌+◌, ◌≤◌}
use lib.Dec.{leb}
use native.Mathlib.Omega.{arith}
use borrow.Author.Tests.{leb-true}
use Rattle.format.proofs.Basics.{and-true}
use Rattle.format.specs.declared.level.Layout.{Layout}
use Rattle.format.specs.declared.leaf.Leaf.{Leaf}
use Rattle.format.specs.Parse.{Parse, each, ok, fault}
use Rattle.format.proofs.ParseLaws.{each-ok, each-fault, passing_told, onward-told, whole-told}
use Rattle.format.specs.Field.{byte}
use Rattle.format.specs.Level.{level_fields, total}
use Rattle.format.proofs.LevelLaws.{total-reverse}
use Rattle.format.specs.Bump.{Bump, block_field, height_field, height_up_to, bump_field, bump_up_to, bump_whole, head_of}
use Rattle.format.specs.Cmp.{Cmp, top_field, top_up_to, cmp_field, cmp_up_to, cmp_whole, cmp_head_of}
use Rattle.format.specs.Refusals.{BAD_HEIGHT, MAX_HEIGHT}

pub height_bounded : (s : List ℕ) (at : ℕ) {h q : ℕ} → height_field s at ≡ ok h q → (1 ≤ h) × (h ≤ MAX_HEIGHT)
unfolding height_up_to
height_bounded s at {h} e =
    let t = and-true (leb 1 h) (leb h MAX_HEIGHT) (passing_told byte (λ h. leb 1 h && leb h MAX_HEIGHT) BAD_HEIGHT s at e).1 in
    (leb-true 1 h t.0, leb-true h MAX_HEIGHT t.1)

pub top_bounded : (s : List ℕ) (at : ℕ) {m q : ℕ} → top_field s at ≡ ok m q → m + 1 ≤ MAX_HEIGHT
unfolding top_up_to
top_bounded s at {m} e = leb-true (m + 1) MAX_HEIGHT (passing_told byte (λ m. leb (m + 1) MAX_HEIGHT) BAD_HEIGHT s at e).1

-- the answer of a BUMP, by its fields
module _ (s : List ℕ) (at : ℕ) {block q : ℕ} (e : block_field s at ≡ ok block q) where
  pub bump_no_height : {n t : ℕ} → height_field s q ≡ fault n t → each head_of (bump_field s at) ≡ fault n t
  unfolding each bump_up_to
  bump_no_height f = rw (e, f)

  module _ {height r : ℕ} (f : height_field s q ≡ ok height r) where
    pub bump_no_levels : {n t : ℕ} → each total (level_fields Layout.Bump height s r) ≡ fault n t → each head_of (bump_field s at) ≡ fault n t
    unfolding each bump_up_to
    bump_no_levels g = rw (e, f, each-fault total (level_fields Layout.Bump height s r) g)

    pub bump-read : {n t : ℕ} → each total (level_fields Layout.Bump height s r) ≡ ok n t
        → each head_of (bump_field s at) ≡ ok (record { block = block; height = height; leaves = n; levels = record { at = r } }) t
    unfolding each bump_up_to
    bump-read {t = t} g =
        let x = each-ok total (level_fields Layout.Bump height s r) g in
        rw (e, f, x.1) (ap (λ (n : ℕ). ok (record { block = block; height = height; leaves = n; levels = record { at = r } }) t) x.2)

-- the answer of a CMP, by its fields
module _ (s : List ℕ) (at : ℕ) {m r : ℕ} (e : top_field s at ≡ ok m r) where
  pub cmp_no_levels : {n t : ℕ} → each total (level_fields Layout.Cmp (m + 1) s r) ≡ fault n t → each cmp_head_of (cmp_field s at) ≡ fault n t
  unfolding each cmp_up_to
  cmp_no_levels g = rw (e, each-fault total (level_fields Layout.Cmp (m + 1) s r) g)

  pub cmp-read : {n t : ℕ} → each total (level_fields Layout.Cmp (m + 1) s r) ≡ ok n t
      → each cmp_head_of (cmp_field s at) ≡ ok (record { height = m + 1; leaves = n; levels = record { at = r } }) t
  unfolding each cmp_up_to
  cmp-read {t = t} g =
      let x = each-ok total (level_fields Layout.Cmp (m + 1) s r) g in
      rw (e, x.1) (ap (λ (n : ℕ). ok (record { height = m + 1; leaves = n; levels = record { at = r } }) t) (total-reverse x.0 ∙ x.2))

-- what is known of a BUMP that was read: its height's bounds, and its levels at their place
pub record BumpRead (s : List ℕ) (q : ℕ) (b : Bump) : Type 0 where
  pub some : 1 ≤ b.height
  pub low : b.height ≤ MAX_HEIGHT
  pub levels : level_fields Layout.Bump b.height s b.start ≡ ok b.levels q

pub bump-told : (s : List ℕ) (at : ℕ) {b : Bump} {q : ℕ} → bump_field s at ≡ ok b q → BumpRead s q b
unfolding bump_up_to
bump-told s at {b} {q} e =
    let x = onward-told (block_field s at) _ e in
    let y = onward-told (height_field s x.1) _ x.3 in
    let z = onward-told (level_fields Layout.Bump y.0 s y.1) _ y.3 in
    built x.0 y.0 y.1 z.1 z.0 (height_bounded s x.1 y.2) z.2 z.3
  where
    built : (block height start end : ℕ) (levels : List (List Leaf)) → (1 ≤ height) × (height ≤ MAX_HEIGHT) → level_fields Layout.Bump height s start ≡ ok levels end
        → ◌≡◌ {A = Parse Bump} (ok (record { block = block; height = height; start = start; levels = levels }) end) (ok b q) → BumpRead s q b
    built block height start end levels h l is =
        let eb : record { block = block; height = height; start = start; levels = levels } ≡ b = cc in
        let eq : end ≡ q = cc in
        rw (← eb, ← eq) (record { some = h.0; low = h.1; levels = l })

pub bump-whole-told : (s : List ℕ) {b : Bump} {q : ℕ} → bump_whole s ≡ ok b q → BumpRead s q b
bump-whole-told s e = bump-told s 0 (whole-told bump_field s e)

-- what is known of a CMP that was read: its height's bounds, and its levels at their place, from the top down
pub record CmpRead (s : List ℕ) (q : ℕ) (p : Cmp) : Type 0 where
  pub some : 1 ≤ p.height
  pub low : p.height ≤ MAX_HEIGHT
  pub levels : (down : List (List Leaf)) × (level_fields Layout.Cmp p.height s p.start ≡ ok down q) × (reverse down ≡ p.levels)

pub cmp-told : (s : List ℕ) (at : ℕ) {p : Cmp} {q : ℕ} → cmp_field s at ≡ ok p q → CmpRead s q p
unfolding cmp_up_to
cmp-told s at {p} {q} e =
    let x = onward-told (top_field s at) _ e in
    let z = onward-told (level_fields Layout.Cmp (x.0 + 1) s x.1) _ x.3 in
    built x.0 x.1 z.1 z.0 (top_bounded s at x.2) z.2 z.3
  where
    built : (m start end : ℕ) (down : List (List Leaf)) → m + 1 ≤ MAX_HEIGHT → level_fields Layout.Cmp (m + 1) s start ≡ ok down end
        → ◌≡◌ {A = Parse Cmp} (ok (record { height = m + 1; start = start; levels = reverse down }) end) (ok p q) → CmpRead s q p
    built m start end down h l is =
        let ep : record { height = m + 1; start = start; levels = reverse down } ≡ p = cc in
        let eq : end ≡ q = cc in
        rw (← ep, ← eq) (record { some = omega arith; low = omega arith; levels = (down, l, refl) })

pub cmp-whole-told : (s : List ℕ) {p : Cmp} {q : ℕ} → cmp_whole s ≡ ok p q → CmpRead s q p
cmp-whole-told s e = cmp-told s 0 (whole-told cmp_field s e)

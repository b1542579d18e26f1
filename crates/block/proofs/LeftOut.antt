-- "Of the siblings needed, Item 1's writer leaves out one above level 0 exactly when a chosen position lies under it" (02, Item 3).
use mathlib.Core.Path.{◌≡◌, refl, sym, ap, ◌∙◌, subst}
use mathlib.Core.Bool.{Bool, true, false}
use mathlib.Core.List.{List, []}
use mathlib.Core.Logic.{◌↔◌}
use Rattle.std.specs.Prelude.{Option, Some, None}
use Rattle.format.specs.declared.leaf.Kind.{Kind}
use Prim.Native.Nat.{ℕ, zero, suc, ◌+◌, ◌-◌, ◌*◌, ◌^◌, ◌/◌, ◌%◌, ◌<◌}
use lib.ListN.{get_or}
use lib.Dec.{eqb}
use lib.Pow.{shr-shr}
use native.Mathlib.Omega.{arith}
use native.Mathlib.Nat.{div-one}
use native.Mathlib.Numerals.{add-one}
use borrow.Author.Tests.{eqb-true, eqb-false}
use Rattle.format.specs.Parse.{ok}
use Rattle.format.specs.Level.{holds}
use Rattle.format.specs.Bump.{Bump, bump_whole}
use Rattle.path.specs.Search.{lookup}
use Rattle.spv.specs.Climb.{sibling_position}
use Rattle.spv.specs.Hashes.{hashes_of}
use Rattle.spv.specs.Result.{accepted}
use Rattle.encoding.specs.Encode.{AllBytes}
use Rattle.encoding.specs.BumpBytes.{Carried, client}
use Rattle.block.specs.Tree.{node, height}
use Rattle.block.specs.BlockBump.{under, sibling_at, asked, found_as, writing, Meets}
use Rattle.block.proofs.TreeLaws.{height-holds, height-least}
use Rattle.block.proofs.BlockFit.{under-told, under-chosen}
use Rattle.block.proofs.BlockMeets.{read_back}
use Rattle.block.proofs.BlockValues.{sibling-twice, sibling_in, asked-client, asked_over, asked-sibling}
use Rattle.block.proofs.WrittenLaws.{written_sizes, written-meets}

-- position i lies under node q of layer k: it is that node, or lies under one of its two children
pub data LiesUnder (i : ℕ) : ℕ → ℕ → Type 0 where
  itself : LiesUnder i 0 i
  on_left : {k q : ℕ} → LiesUnder i k (2 * q) → LiesUnder i (suc k) q
  on_right : {k q : ℕ} → LiesUnder i k (2 * q + 1) → LiesUnder i (suc k) q

-- "a chosen position lies under it"
pub record OverChosen (chosen : List ℕ) (k o : ℕ) : Type 0 where
  pub position : ℕ
  pub chosen-one : holds position chosen ≡ true
  pub below : LiesUnder position k o

-- a sibling needed: it stands beside a node that lies over a chosen position, which that one's climb passes
pub record Needed (chosen : List ℕ) (k o : ℕ) : Type 0 where
  pub passed : ℕ
  pub over : OverChosen chosen k passed
  pub beside : sibling_position passed ≡ o

-- ---- positions under a node

half : (i k : ℕ) → i / 2 ^ suc k ≡ i / 2 ^ k / 2
half i k = sym (shr-shr i k 1 ∙ ap (λ (n : ℕ). i / 2 ^ n) (add-one k))

lies_at : {i k q : ℕ} → LiesUnder i k q → i / 2 ^ k ≡ q
lies_at {i} itself = div-one i
lies_at {i} (on_left {k = k} {q = q} h) = half i k ∙ (let e = lies_at h in omega arith)
lies_at {i} (on_right {k = k} {q = q} h) = half i k ∙ (let e = lies_at h in omega arith)

lies : (i k : ℕ) → LiesUnder i k (i / 2 ^ k)
lies i zero = subst (LiesUnder i 0) (sym (div-one i)) itself
lies i (suc k) = go (eqb (i / 2 ^ k % 2) 1) refl (lies i k)
  where
    go : (t : Bool) → eqb (i / 2 ^ k % 2) 1 ≡ t → LiesUnder i k (i / 2 ^ k) → LiesUnder i (suc k) (i / 2 ^ suc k)
    go true e h =
        let n : i / 2 ^ k ≡ 2 * (i / 2 ^ suc k) + 1 = (let m = eqb-true (i / 2 ^ k % 2) 1 e in omega (arith, half i k)) in
        on_right (subst (LiesUnder i k) n h)
    go false e h =
        let n : i / 2 ^ k ≡ 2 * (i / 2 ^ suc k) = (let m = eqb-false (i / 2 ^ k % 2) 1 e in omega (arith, half i k)) in
        on_left (subst (LiesUnder i k) n h)

-- the definition's test
pub over_exactly : (chosen : List ℕ) (k o : ℕ) → (under chosen k o ≡ true) ↔ OverChosen chosen k o
over_exactly chosen k o = (
  (λ u. let t = under-told chosen k o u in record { position = t.0; chosen-one = t.1; below = subst (LiesUnder t.0 k) t.2 (lies t.0 k) }),
  (λ x. subst (λ (q : ℕ). under chosen k q ≡ true) (lies_at x.below) (under-chosen chosen x.position k x.chosen-one)),
)

-- ---- what is asked for

found-missing : (s : List ℕ) (x : Option Kind) → found_as s x ≡ None → x ≡ None
unfolding found_as
found-missing s (Some kind) e = absurd (let z : ◌≡◌ {A = ℕ} 0 1 = cc in omega arith)
found-missing s None e = refl

found_none : (s : List ℕ) (x : Option Kind) → x ≡ None → found_as s x ≡ None
unfolding found_as
found_none s x e = rw e

some-none : (c : Carried) → ◌≡◌ {A = Option Carried} (Some c) None → ⊥
some-none c e = let z : ◌≡◌ {A = ℕ} 0 1 = cc in omega arith

asked-none : (ids : List (List ℕ)) (chosen : List ℕ) (k o : ℕ) → under chosen k (sibling_position o) ≡ true → (asked ids chosen k o ≡ None) ↔ ((0 < k) × (under chosen k o ≡ true))
asked-none ids chosen k o v = (out k v (under chosen k o) refl, λ x. over k x.0 x.1)
  where
    out : (k : ℕ) → under chosen k (sibling_position o) ≡ true → (t : Bool) → under chosen k o ≡ t → asked ids chosen k o ≡ None → (0 < k) × (under chosen k o ≡ true)
    out k v false u e = absurd (some-none (sibling_at ids k o) (sym (asked-sibling ids chosen o k u v) ∙ e))
    out zero v true u e = absurd (some-none (client (node ids 0 o)) (sym (asked-client ids chosen o u) ∙ e))
    out (suc k) v true u e = (omega arith, u)

    over : (k : ℕ) → 0 < k → under chosen k o ≡ true → asked ids chosen k o ≡ None
    over zero h u = absurd (omega arith)
    over (suc k) h u = asked_over ids chosen o k u

-- ---- what is written

module _ (block : ℕ) (list chosen : List ℕ) (room : ℕ) (bytes : List ℕ) (call : writing block list chosen room ≡ accepted bytes) (all : AllBytes list) where
  -- the BUMP that was written has no leaf at a needed sibling's place exactly when that lies above level 0 and over a chosen position
  pub left_out_exactly : (b : Bump) (end : ℕ) → bump_whole bytes ≡ ok b end → (k o : ℕ) → k < b.height → Needed chosen k o
      → (lookup o (get_or b.levels k []) ≡ None) ↔ ((0 < k) × OverChosen chosen k o)
  left_out_exactly b end e k o low n = (
    (λ h. let x = (asked-none ids chosen k o needed).0 (sym leaf ∙ found_none bytes _ h) in (x.0, (over_exactly chosen k o).0 x.1)),
    (λ x. found-missing bytes _ (leaf ∙ (asked-none ids chosen k o needed).1 (x.0, (over_exactly chosen k o).1 x.1))),
  )
    where
      ids : List (List ℕ)
      ids = hashes_of list

      m : Meets block ids chosen bytes
      m = written-meets block list chosen room bytes call all

      is : m.bump ≡ b
      is = let r = m.read in cc

      high : b.height ≡ height ids
      high =
          let x = m.least (height ids) (height-holds _) in
          let y = height-least _ m.bump.height m.holds_list in
          ap (λ (z : Bump). z.height) (sym is) ∙ omega arith

      needed : under chosen k (sibling_position o) ≡ true
      needed = let q : sibling_position o ≡ n.passed = ap sibling_position (sym n.beside) ∙ sibling-twice n.passed in rw q ((over_exactly chosen k n.passed).1 n.over)

      inside : o < 2 ^ (b.height - k)
      inside = let g = written_sizes block list chosen room bytes call all in rw high (sibling_in g (read_back g) k o (rw high at low) needed)

      leaf : found_as bytes (lookup o (get_or b.levels k [])) ≡ asked ids chosen k o
      leaf = subst (λ (z : Bump). (k o : ℕ) → k < z.height → o < 2 ^ (z.height - k) → found_as bytes (lookup o (get_or z.levels k [])) ≡ asked ids chosen k o) is m.leaves k o low inside

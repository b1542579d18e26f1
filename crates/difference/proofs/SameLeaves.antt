-- There is no difference exactly when block height and tree height are equal and each level holds the same leaves, in whatever order.
use mathlib.Core.Path.{◌≡◌, refl, ap, sym, subst, ◌∙◌}
use mathlib.Core.List.{List, [], ◌∷◌, map}
use mathlib.Core.Bool.{Bool, true, false, ◌&&◌, ◌||◌, false≢true}
use Prim.Native.Nat.{ℕ, zero, suc, ◌+◌, ◌-◌, ◌^◌}
use lib.ListN.{get_or, get_or-map}
use lib.Dec.{eqb, leb}
use native.Mathlib.Omega.{arith}
use borrow.Author.Tests.{eqb-true, eq-eqb, ne_eqb}
use Rattle.format.specs.declared.level.Layout.{Layout}
use Rattle.format.specs.declared.leaf.Leaf.{Leaf}
use Rattle.format.proofs.Basics.{or_true}
use Rattle.format.specs.Parse.{pick, many, ◌passing◌else◌, ok}
use Rattle.format.proofs.ParseLaws.{onward-told, many-told}
use Rattle.format.specs.Field.{varint}
use Rattle.format.specs.Refusals.{OVER_LIMIT, MAX_LEAVES}
use Rattle.format.specs.Level.{holds, leaf_field, and_offset, level_field, level_of_turn, level_in_turn, next_turn}
use Rattle.format.proofs.LevelLaws.{holds_snoc}
use Rattle.format.specs.Bump.{Bump, bump_whole}
use Rattle.format.proofs.BumpLaws.{bump-whole-told}
use Rattle.encoding.specs.BumpBytes.{Carried, Entry, Content, entry_of, content_of}
use Rattle.difference.specs.Differences.{Difference, equal, differences}
use Rattle.levels.specs.Standing.{Standing, stands, nothing, standing_in, standing}
use Rattle.difference.proofs.Once.{one, count, differs, once}
use Rattle.difference.proofs.NoDifference.{equal_eq, equal-refl, Alike, none_alike, alike-none}
use Rattle.levels.proofs.PlacesLaws.{leaf-read}
use Rattle.levels.proofs.Within.{within}

-- offset, flags and hash are equal
unfoldable pub same_leaf : Entry → Entry → Bool
same_leaf e f = eqb f.offset e.offset && equal e.carried f.carried

-- how often a leaf stands in a level
unfoldable pub times : Entry → List Entry → ℕ
times e [] = 0
times e (f ∷ l) = one (same_leaf e f) + times e l

-- equal but for the order of leaves
pub record SameLeaves (x y : Content) : Type 0 where
  pub blocks : x.block ≡ y.block
  pub heights : x.height ≡ y.height
  pub leaves : (k : ℕ) (e : Entry) → times e (get_or x.levels k []) ≡ times e (get_or y.levels k [])

-- no offset stands twice
unfoldable Distinct : List Entry → Type 0
Distinct [] = Unit {0}
Distinct (e ∷ l) = (standing_in e.offset l ≡ nothing) × Distinct l

-- a leaf stands once where it stands at its offset, and else not at all
unfoldable once_at : Standing → Carried → ℕ
once_at nothing c = 0
once_at (stands d) c = one (equal c d)

times-at : (e : Entry) (l : List Entry) → Distinct l → times e l ≡ once_at (standing_in e.offset l) e.carried
unfolding times same_leaf Distinct once_at standing_in one
times-at e [] d = refl
times-at e (f ∷ l) d = go (eqb f.offset e.offset) refl (times-at e l d.1)
  where
    go : (b : Bool) → eqb f.offset e.offset ≡ b → times e l ≡ once_at (standing_in e.offset l) e.carried
        → one (b && equal e.carried f.carried) + times e l ≡ once_at (pick b (stands f.carried) (standing_in e.offset l)) e.carried
    go true g r =
        let h : standing_in e.offset l ≡ nothing = ap (λ (o : ℕ). standing_in o l) (sym (eqb-true f.offset e.offset g)) ∙ d.0 in
        let i : times e l ≡ 0 = r ∙ ap (λ (v : Standing). once_at v e.carried) h in
        omega (arith, i)
    go false g r = omega (arith, r)

-- what stands at an offset is known by how often leaves stand
same_at : (v w : Standing) → ((c : Carried) → once_at v c ≡ once_at w c) → v ≡ w
unfolding once_at one
same_at nothing nothing f = refl
same_at (stands c) nothing f = let g = f c in let h = equal-refl c in absurd (omega (arith, ap one (sym h) ∙ g))
same_at nothing (stands d) f = let g = f d in let h = equal-refl d in absurd (omega (arith, g ∙ ap one h))
same_at (stands c) (stands d) f = go (equal c d) refl (f c)
  where
    go : (b : Bool) → equal c d ≡ b → one (equal c c) ≡ one (equal c d) → stands c ≡ stands d
    go true e g = ap stands (equal_eq c d e)
    go false e g = let h = equal-refl c in absurd (omega (arith, ap one (sym h) ∙ g ∙ ap one e))

-- ---- in a level that was read no offset stands twice

seen_or : (o : ℕ) (seen : List ℕ) (leaf : Leaf) → holds o seen ≡ true → holds o (and_offset seen leaf) ≡ true
seen_or o seen leaf e = holds_snoc o seen leaf.offset ∙ ap (λ (b : Bool). b || eqb o leaf.offset) e

leaves-distinct : (s : List ℕ) (limit level n : ℕ) (seen : List ℕ) (p : ℕ) {l : List Leaf} {q : ℕ} → many (leaf_field Layout.Bump limit level) and_offset n seen s p ≡ ok l q
    → Distinct (map (entry_of s) l) × ((o : ℕ) → holds o seen ≡ true → standing_in o (map (entry_of s) l) ≡ nothing)
unfolding many Distinct standing_in
leaves-distinct s limit level zero seen p {l} {q} e =
    let a : [] ≡ l = cc in
    subst (λ (v : List Leaf). Distinct (map (entry_of s) v) × ((o : ℕ) → holds o seen ≡ true → standing_in o (map (entry_of s) v) ≡ nothing)) a (tt, λ o h. refl)
leaves-distinct s limit level (suc n) seen p {l} {q} e =
    let x = many-told (leaf_field Layout.Bump limit level) and_offset n seen s p e in
    let t = leaf-read limit level seen s p x.3 in
    let r = leaves-distinct s limit level n (and_offset seen x.0) x.1 x.4 in
    let own : holds x.0.offset (and_offset seen x.0) ≡ true =
    holds_snoc x.0.offset seen x.0.offset ∙ ap (λ (b : Bool). holds x.0.offset seen || b) (eq-eqb x.0.offset x.0.offset refl) ∙ or_true (holds x.0.offset seen) in
    subst (λ (v : List Leaf). Distinct (map (entry_of s) v) × ((o : ℕ) → holds o seen ≡ true → standing_in o (map (entry_of s) v) ≡ nothing)) x.5 (
      (r.1 x.0.offset own, r.0),
      λ o h. ap (λ (b : Bool). pick b (stands (entry_of s x.0).carried) (standing_in o (map (entry_of s) x.2))) (ne_eqb x.0.offset o (other o x.0.offset h t.1)) ∙ r.1 o (seen_or o seen x.0 h),
    )
  where
    other : (o j : ℕ) → holds o seen ≡ true → holds j seen ≡ false → j ≡ o → ⊥
    other o j h g i = false≢true (sym g ∙ ap (λ (k : ℕ). holds k seen) i ∙ h)

levels-distinct : (s : List ℕ) (h n k p : ℕ) (ls : List (List Leaf)) (q j : ℕ) → many (level_in_turn Layout.Bump h) next_turn n k s p ≡ ok ls q → Distinct (map (entry_of s) (get_or ls j []))
unfolding many Distinct level_of_turn level_field
levels-distinct s h zero k p ls q j e =
    let a : [] ≡ ls = cc in
    subst (λ (v : List (List Leaf)). Distinct (map (entry_of s) (get_or v j []))) a tt
levels-distinct s h (suc n) k p ls q j e =
    let x = many-told (level_in_turn Layout.Bump h) next_turn n k s p e in
    let y = onward-told ((varint passing (λ m. leb m MAX_LEAVES) else OVER_LIMIT) s p) _ x.3 in
    subst (λ (v : List (List Leaf)). Distinct (map (entry_of s) (get_or v j []))) x.5
    (go x.0 x.2 j (leaves-distinct s (2 ^ (h - k)) k y.0 [] y.1 y.3).0 (λ i. levels-distinct s h n (k + 1) x.1 x.2 q i x.4))
  where
    go : (l : List Leaf) (rest : List (List Leaf)) (j : ℕ) → Distinct (map (entry_of s) l) → ((i : ℕ) → Distinct (map (entry_of s) (get_or rest i []))) → Distinct (map (entry_of s) (get_or (l ∷ rest) j []))
    go l rest zero a f = a
    go l rest (suc i) a f = f i

read-distinct : (s : List ℕ) {b : Bump} {q : ℕ} → bump_whole s ≡ ok b q → (k : ℕ) → Distinct (get_or (content_of s b).levels k [])
read-distinct s {b} {q} e k =
    subst (λ (v : List Entry). Distinct v) (sym (get_or-map (map (entry_of s)) b.levels k []))
    (levels-distinct s b.height b.height 0 b.start b.levels q k (bump-whole-told s e).levels)

-- ---- two BUMPs that were read

module _ (a b : List ℕ) {x y : Bump} {q r : ℕ} (e : bump_whole a ≡ ok x q) (f : bump_whole b ≡ ok y r) where
  alike_same : Alike (content_of a x) (content_of b y) → SameLeaves (content_of a x) (content_of b y)
  unfolding standing
  alike_same z =
      record {
        blocks = z.blocks;
        heights = z.heights;
        leaves = λ k c.
            times-at c (get_or (content_of a x).levels k []) (read-distinct a e k)
            ∙ ap (λ (v : Standing). once_at v c.carried) (z.places k c.offset)
            ∙ sym (times-at c (get_or (content_of b y).levels k []) (read-distinct b f k));
      }

  same_alike : SameLeaves (content_of a x) (content_of b y) → Alike (content_of a x) (content_of b y)
  unfolding standing
  same_alike z =
      record {
        blocks = z.blocks;
        heights = z.heights;
        places = λ k o.
            same_at (standing_in o (get_or (content_of a x).levels k [])) (standing_in o (get_or (content_of b y).levels k []))
            (λ c.
            let l : Entry = record { offset = o; carried = c } in
            sym (times-at l (get_or (content_of a x).levels k []) (read-distinct a e k)) ∙ z.leaves k l ∙ times-at l (get_or (content_of b y).levels k []) (read-distinct b f k));
      }

  -- every difference stands in the list once, and nothing else does
  pub listed-once : (d : Difference) → count d (differences (content_of a x) (content_of b y)) ≡ one (differs (content_of a x) (content_of b y) d)
  listed-once = once (content_of a x) (content_of b y) (within a e) (within b f)

  -- no differences exactly when the contents are equal but for the order of leaves
  pub none-same : differences (content_of a x) (content_of b y) ≡ [] → SameLeaves (content_of a x) (content_of b y)
  none-same d = alike_same (none_alike (content_of a x) (content_of b y) (within a e) (within b f) d)

  pub same_none : SameLeaves (content_of a x) (content_of b y) → differences (content_of a x) (content_of b y) ≡ []
  same_none z = alike-none (content_of a x) (content_of b y) (same_alike z)

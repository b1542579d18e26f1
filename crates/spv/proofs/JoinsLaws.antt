-- The joins made for one sibling are fewer than the leaves that lie under it (02, Item 3).
use Prim.Native.Nat.{ℕ, zero, suc, ◌+◌, ◌-◌, ◌*◌, ◌/◌, ◌%◌, ◌^◌, ◌≤◌, ◌<◌}
use native.Mathlib.Nat.{pow-suc, div-div-eq-div-mul}
use mathlib.Core.Path.{◌≡◌, refl, ap, ◌∙◌, sym}
use mathlib.Core.Bool.{Bool, true, false}
use mathlib.Core.List.{List, [], ◌∷◌}
use lib.ListN.{length, get_or}
use lib.Dec.{eqb}
use native.Mathlib.Omega.{arith}
use borrow.Author.Tests.{eqb-true, eqb-false, eq-eqb}
use Rattle.format.specs.declared.leaf.Leaf.{Leaf}
use Rattle.std.specs.Prelude.{Some, None}
use Rattle.format.specs.Parse.{pick}
use Rattle.path.specs.Search.{lookup}
use Rattle.spv.specs.Climb.{Sibling, value, copied, absent, Siblings, sibling_position}
use Rattle.spv.proofs.ClimbLaws.{sibling-odd, sibling-even}
use Rattle.spv.specs.Values.{has_value, value_by, join_both, join_of, value_of}
use Rattle.spv.specs.Siblings.{sibling, written_by, find_in}
use Rattle.spv.specs.Joins.{one, joins_by, joins_made, sibling_joins, climb_joins, lies_under, count_under, leaves_below, leaves_under, leaves_in}

-- ---- leaves under the two children of a node

one_most : (b : Bool) → one b ≤ 1
unfolding one
one_most true = omega arith
one_most false = omega arith

halves : (k l o : ℕ) → l ≤ k → o / 2 ^ (suc k - l) ≡ (o / 2 ^ (k - l)) / 2
halves k l o b =
    let e : suc k - l ≡ suc (k - l) = omega arith in
    ap (λ (x : ℕ). o / 2 ^ x) e ∙ ap (λ (x : ℕ). o / x) (pow-suc 2 (k - l)) ∙ sym (div-div-eq-div-mul o (2 ^ (k - l)) 2)

leaf-two : (k q l : ℕ) (leaf : Leaf) → l ≤ k → one (lies_under k (2 * q) l leaf) + one (lies_under k (2 * q + 1) l leaf) ≤ one (lies_under (suc k) q l leaf)
unfolding one lies_under
leaf-two k q l leaf b = go (eqb (o / 2 ^ (k - l)) (2 * q)) refl (eqb (o / 2 ^ (k - l)) (2 * q + 1)) refl
  where
    o : ℕ
    o = leaf.offset

    up : (o / 2 ^ (k - l)) / 2 ≡ q → one (eqb (o / 2 ^ (suc k - l)) q) ≡ 1
    up e = rw (eq-eqb (o / 2 ^ (suc k - l)) q (halves k l o b ∙ e))

    go : (t : Bool) → eqb (o / 2 ^ (k - l)) (2 * q) ≡ t → (u : Bool) → eqb (o / 2 ^ (k - l)) (2 * q + 1) ≡ u → one t + one u ≤ one (eqb (o / 2 ^ (suc k - l)) q)
    go false x false y = omega arith
    go true x true y = absurd (omega (arith, eqb-true (o / 2 ^ (k - l)) (2 * q) x, eqb-true (o / 2 ^ (k - l)) (2 * q + 1) y))
    go true x false y = let e : (o / 2 ^ (k - l)) / 2 ≡ q = omega (arith, eqb-true (o / 2 ^ (k - l)) (2 * q) x) in omega (arith, up e)
    go false x true y = let e : (o / 2 ^ (k - l)) / 2 ≡ q = omega (arith, eqb-true (o / 2 ^ (k - l)) (2 * q + 1) y) in omega (arith, up e)

count-two : (k q l : ℕ) (leaves : List Leaf) → l ≤ k → count_under k (2 * q) l leaves + count_under k (2 * q + 1) l leaves ≤ count_under (suc k) q l leaves
unfolding count_under
count-two k q l [] b = omega arith
count-two k q l (leaf ∷ leaves) b = omega (arith, leaf-two k q l leaf b, count-two k q l leaves b)

pub below_two : (levels : List (List Leaf)) (k q n : ℕ) → n ≤ suc k → leaves_below levels k (2 * q) n + leaves_below levels k (2 * q + 1) n ≤ leaves_below levels (suc k) q n
unfolding leaves_below
below_two levels k q zero b = omega arith
below_two levels k q (suc n) b = omega (arith, below_two levels k q n (omega arith), count-two k q n (get_or levels n []) (omega arith))

below_more : (levels : List (List Leaf)) (k q : ℕ) → leaves_under levels k q ≤ leaves_below levels k q (suc k)
unfolding leaves_below
below_more levels k q = omega arith

-- those under a position and under its sibling lie under their parent
pair_under : (levels : List (List Leaf)) (k j : ℕ) → leaves_under levels k j + leaves_under levels k (sibling_position j) ≤ leaves_under levels (suc k) (j / 2)
pair_under levels k j = go (eqb (j % 2) 1) refl
  where
    both : leaves_under levels k (2 * (j / 2)) + leaves_under levels k (2 * (j / 2) + 1) ≤ leaves_under levels (suc k) (j / 2)
    both = omega (arith, below_two levels k (j / 2) (suc k) (omega arith), below_more levels k (2 * (j / 2)), below_more levels k (2 * (j / 2) + 1))

    go : (t : Bool) → eqb (j % 2) 1 ≡ t → leaves_under levels k j + leaves_under levels k (sibling_position j) ≤ leaves_under levels (suc k) (j / 2)
    go true e =
        let o = eqb-true (j % 2) 1 e in
        let l = ap (leaves_under levels k) (let b = sibling-odd j o in let x : sibling_position j ≡ 2 * (j / 2) = omega arith in x) in
        let r = ap (leaves_under levels k) (let x : j ≡ 2 * (j / 2) + 1 = omega arith in x) in
        omega (arith, both, l, r)
    go false e =
        let o = eqb-false (j % 2) 1 e in
        let r = ap (leaves_under levels k) (let b = sibling-even j o in let x : sibling_position j ≡ 2 * (j / 2) + 1 = omega arith in x) in
        let l = ap (leaves_under levels k) (let x : j ≡ 2 * (j / 2) = omega arith in x) in
        omega (arith, both, l, r)

count-all : (k q l : ℕ) (leaves : List Leaf) → count_under k q l leaves ≤ length leaves
unfolding count_under
count-all k q l [] = omega arith
count-all k q l (leaf ∷ leaves) = omega (arith, one_most (lies_under k q l leaf), count-all k q l leaves)

pub below_all : (levels : List (List Leaf)) (k q n : ℕ) → leaves_below levels k q n ≤ leaves_in levels n
unfolding leaves_below leaves_in
below_all levels k q zero = omega arith
below_all levels k q (suc n) = omega (arith, below_all levels k q n, count-all k q n (get_or levels n []))

-- a leaf lies under its own node
pub count-here : (k q : ℕ) (leaves : List Leaf) → (lookup q leaves ≡ None → ⊥) → 1 ≤ count_under k q k leaves
unfolding lookup count_under one lies_under
count-here k q [] ne = absurd (ne refl)
count-here k q (leaf ∷ leaves) ne = go (eqb leaf.offset q) refl ne (count-here k q leaves)
  where
    go : (t : Bool) → eqb leaf.offset q ≡ t → (pick t (Some leaf.kind) (lookup q leaves) ≡ None → ⊥) → ((lookup q leaves ≡ None → ⊥) → 1 ≤ count_under k q k leaves)
        → 1 ≤ one (lies_under k q k leaf) + count_under k q k leaves
    go true e m ih =
        let z : k - k ≡ 0 = omega arith in
        let d : leaf.offset / 2 ^ (k - k) ≡ q = ap (λ (x : ℕ). leaf.offset / 2 ^ x) z ∙ omega (arith, eqb-true leaf.offset q e) in
        rw (eq-eqb (leaf.offset / 2 ^ (k - k)) q d) (omega arith)
    go false e m ih = omega (arith, ih m)

-- ---- joins

pub both_valued : (l r : Sibling) → has_value (join_both l r) ≡ true → (has_value l ≡ true) × (has_value r ≡ true)
unfolding join_both has_value
both_valued (value l) (value r) e = (refl, refl)
both_valued (value l) copied e = absurd (let z : ◌≡◌ {A = ℕ} 0 1 = cc in omega arith)
both_valued (value l) absent e = absurd (let z : ◌≡◌ {A = ℕ} 0 1 = cc in omega arith)
both_valued copied r e = absurd (let z : ◌≡◌ {A = ℕ} 0 1 = cc in omega arith)
both_valued absent r e = absurd (let z : ◌≡◌ {A = ℕ} 0 1 = cc in omega arith)

no_value : has_value absent ≡ true → ⊥
unfolding has_value
no_value e = let z : ◌≡◌ {A = ℕ} 0 1 = cc in omega arith

-- so many joins for so many leaves: fewer, and where there is a value there is a leaf
unfoldable Fewer : ℕ → ℕ → Sibling → Type 0
Fewer joins leaves v = (joins ≤ leaves - 1) × (has_value v ≡ true → 1 ≤ leaves)

module _ (s : List ℕ) (levels : List (List Leaf)) where
  unfoldable w : Siblings
  w = written_by s (find_in levels)

  -- the leaves under a node and at it
  unfoldable full : ℕ → ℕ → ℕ
  full k q = leaves_below levels k q (suc k)

  at-node : (k q : ℕ) → (w k q ≡ absent → ⊥) → 1 ≤ full k q
  unfolding w full leaves_below sibling
  at-node k q ne = let h = count-here k q (get_or levels k []) (λ e. ne (ap (sibling s) e)) in omega arith

  node_fewer : (k q : ℕ) (copy : Sibling) → Fewer (joins_made w k q) (leaves_under levels k q) (join_of w k q) → Fewer (joins_by (w k q) (joins_made w k q)) (full k q) (value_of w copy k q)
  unfolding Fewer value_of value_by joins_by full leaves_below
  node_fewer k q copy ih = go (w k q) refl ih
    where
      more : leaves_under levels k q ≤ full k q
      more = omega arith

      go : (x : Sibling) → w k q ≡ x → Fewer (joins_made w k q) (leaves_under levels k q) (join_of w k q) → Fewer (joins_by x (joins_made w k q)) (full k q) (value_by x copy (join_of w k q))
      go (value p) e ih = (omega arith, λ h. at-node k q (λ z. let y : ◌≡◌ {A = ℕ} 0 1 = cc in omega arith))
      go copied e ih = (omega arith, λ h. at-node k q (λ z. let y : ◌≡◌ {A = ℕ} 0 1 = cc in omega arith))
      go absent e ih = (omega (arith, ih.0, more), λ h. omega (arith, ih.1 h, more))

  join_fewer : (k q : ℕ) → Fewer (joins_made w k q) (leaves_under levels k q) (join_of w k q)
  unfolding Fewer joins_made join_of value_of full one
  join_fewer zero q = (omega arith, λ h. absurd (no_value h))
  join_fewer (suc k) q =
      let l = node_fewer k (2 * q) absent (join_fewer k (2 * q)) in
      let r = node_fewer k (2 * q + 1) (value_of w absent k (2 * q)) (join_fewer k (2 * q + 1)) in
      let two = below_two levels k q (suc k) (omega arith) in
      let have = both_valued (value_of w absent k (2 * q)) (value_of w (value_of w absent k (2 * q)) k (2 * q + 1)) in
      go (has_value (value_of w absent k (2 * q))) refl (has_value (join_of w (suc k) q)) refl l r two have
    where
      J : Sibling
      J = join_of w (suc k) q

      go : (a : Bool) → has_value (value_of w absent k (2 * q)) ≡ a → (b : Bool) → has_value J ≡ b
          → Fewer (joins_by (w k (2 * q)) (joins_made w k (2 * q))) (full k (2 * q)) (value_of w absent k (2 * q))
          → Fewer (joins_by (w k (2 * q + 1)) (joins_made w k (2 * q + 1))) (full k (2 * q + 1)) (value_of w (value_of w absent k (2 * q)) k (2 * q + 1))
          → full k (2 * q) + full k (2 * q + 1) ≤ leaves_under levels (suc k) q
          → (has_value J ≡ true → (has_value (value_of w absent k (2 * q)) ≡ true) × (has_value (value_of w (value_of w absent k (2 * q)) k (2 * q + 1)) ≡ true))
          → (joins_by (w k (2 * q)) (joins_made w k (2 * q)) + pick a (joins_by (w k (2 * q + 1)) (joins_made w k (2 * q + 1)) + one b) 0 ≤ leaves_under levels (suc k) q - 1)
          × (has_value J ≡ true → 1 ≤ leaves_under levels (suc k) q)
      go false x b y l r two have = (omega (arith, l.0, two), λ h. omega (arith, l.1 (have h).0, two))
      go true x false y l r two have = (omega (arith, l.0, l.1 x, r.0, two), λ h. omega (arith, l.1 (have h).0, two))
      go true x true y l r two have = (omega (arith, l.0, l.1 x, r.0, r.1 (have y).1, two), λ h. omega (arith, l.1 (have h).0, two))

  -- the joins made for one sibling: fewer than the leaves that lie under it, if any does
  pub joins-few : (k q : ℕ) → sibling_joins (written_by s (find_in levels)) k q ≤ leaves_under levels k q - 1
  unfolding sibling_joins w joins_by Fewer
  joins-few k q = go (written_by s (find_in levels) k q) (join_fewer k q).0
    where
      go : (x : Sibling) → joins_made w k q ≤ leaves_under levels k q - 1 → joins_by x (joins_made w k q) ≤ leaves_under levels k q - 1
      go (value p) h = omega arith
      go copied h = omega arith
      go absent h = h

  -- and one does under a sibling that is worked out
  pub joins_fewer : (k q : ℕ) → has_value (join_of (written_by s (find_in levels)) k q) ≡ true → sibling_joins (written_by s (find_in levels)) k q < leaves_under levels k q
  unfolding w Fewer
  joins_fewer k q h = omega (arith, joins-few k q, (join_fewer k q).1 h)

  -- the joins made for the siblings of a climb, with the leaves under its position: no more than all leaves
  climb_leaves : (n k j : ℕ) → climb_joins (written_by s (find_in levels)) k n j + leaves_under levels k j ≤ leaves_in levels (k + n)
  unfolding climb_joins
  climb_leaves zero k j = let e : k ≡ k + 0 = omega arith in omega (arith, below_all levels k j k, ap (leaves_in levels) e)
  climb_leaves (suc n) k j =
      let e : suc k + n ≡ k + suc n = omega arith in
      omega (arith, climb_leaves n (suc k) (j / 2), ap (leaves_in levels) e, pair_under levels k j, joins-few k (sibling_position j))

  -- the joins made for all siblings of one climb are no more than the leaves of its layers
  pub climb_few : (h i : ℕ) → climb_joins (written_by s (find_in levels)) 0 h i ≤ leaves_in levels h
  climb_few h i = let e : 0 + h ≡ h = omega arith in omega (arith, climb_leaves h 0 i, ap (leaves_in levels) e)

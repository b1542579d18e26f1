-- The pass makes at most one join for each row and layer, one for each layer, and one for each leaf.
use Rattle.std.proofs.Common.{◌≡◌, ℕ, suc, ◌+◌, ◌-◌, ◌*◌, ◌≤◌, Bool, true, false, ◌&&◌, leb, List, [], ◌∷◌, ◌++◌, length, get_or, refl, ap, ◌∙◌, suc-mul, add-mul, zero-mul, arith, leb-false, leb-true}
use Rattle.format.specs.declared.leaf.Leaf.{Leaf}
use Rattle.spv.specs.Climb.{Sibling, value, copied, absent, Siblings}
use Rattle.spv.specs.Values.{has_value, value_by, value_of, join_of}
use Rattle.spv.specs.Siblings.{sibling, written_by, find_in}
use Rattle.spv.specs.Joins.{one, leaves_below, leaves_in}
use Rattle.spv.proofs.JoinsLaws.{below_two, below_all, count-here, both_valued, joins_fewer}
use Rattle.climbs.proofs.Joins.{to_join, tried, untried, Visit, rests, goes, Pass}

-- the layers below k that rows have not tried
unfoldable left : ℕ → List ℕ → ℕ
left k [] = 0
left k (n ∷ rows) = k - n + left k rows

left_both : (k : ℕ) (l r : List ℕ) → left k (l ++ r) ≡ left k l + left k r
unfolding left
left_both k [] r = omega arith
left_both k (n ∷ l) r = let e = left_both k l r in omega arith

left_up : (k : ℕ) (rows : List ℕ) → left (suc k) rows ≡ left k rows + untried k rows
unfolding left untried one
left_up k [] = refl
left_up k (n ∷ rows) = let e = left_up k rows in let f = up (leb n k) refl in omega arith
  where
    up : (t : Bool) → leb n k ≡ t → suc k - n ≡ k - n + one (leb n k)
    up true e = let l = leb-true n k e in rw e (omega arith)
    up false e = let l = leb-false n k e in rw e (omega arith)

-- what rows have tried and what they have not is each layer once
left-all : (h : ℕ) (rows : List ℕ) → ((i : ℕ) → get_or rows i 0 ≤ h) → tried rows + left h rows ≡ length rows * h
unfolding left tried
left-all h [] f = let e = zero-mul h in omega arith
left-all h (n ∷ rows) f =
    let e = left-all h rows (λ i. f (suc i)) in
    let l = f 0 in
    let m : suc (length rows) * h ≡ length rows * h + h = suc-mul (length rows) h in
    omega arith

-- what the children of a node make, its rows' steps and its own join
sum-joined : (m p o u a b n x y z : ℕ) (t v : Bool) → m ≡ p + o + u → a ≤ p + (x - 1) → b ≤ o + (y - 1) → n ≤ u → x + y ≤ z → (v ≡ true → (1 ≤ x) × (1 ≤ y)) → a + b + n + one (t && v) ≤ m + (z - 1)
unfolding one
sum-joined m p o u a b n x y z true true e f g h i have = let v = have refl in let j = v.0 in let k = v.1 in omega arith
sum-joined m p o u a b n x y z true false e f g h i have = omega arith
sum-joined m p o u a b n x y z false v e f g h i have = omega arith

module _ (s : List ℕ) (levels : List (List Leaf)) where
  unfoldable w : Siblings
  w = written_by s (find_in levels)

  -- the leaves at a node and under it
  unfoldable full : ℕ → ℕ → ℕ
  full k q = leaves_below levels k q (suc k)

  two_full : (k q : ℕ) → full k (2 * q) + full k (2 * q + 1) ≤ full (suc k) q
  unfolding full leaves_below
  two_full k q = omega (arith, below_two levels k q (suc k) (omega arith))

  -- where something is written, or worked out, there is a leaf
  written-leaf : (k q : ℕ) → (w k q ≡ absent → ⊥) → 1 ≤ full k q
  unfolding w full leaves_below sibling
  written-leaf k q ne = omega (arith, count-here k q (get_or levels k []) (λ e. ne (ap (sibling s) e)))

  worked_leaf : (k q : ℕ) → has_value (join_of w k q) ≡ true → 1 ≤ full k q
  unfolding w full leaves_below
  worked_leaf k q h = omega (arith, joins_fewer s levels k q h)

  value-leaf : (k q : ℕ) (copy : Sibling) → has_value (value_of w copy k q) ≡ true → 1 ≤ full k q
  unfolding value_of value_by
  value-leaf k q copy h = go (w k q) refl h
    where
      go : (x : Sibling) → w k q ≡ x → has_value (value_by x copy (join_of w k q)) ≡ true → 1 ≤ full k q
      go (value p) e h = written-leaf k q (λ z. let y : ◌≡◌ {A = ℕ} 0 1 = cc in omega arith)
      go copied e h = written-leaf k q (λ z. let y : ◌≡◌ {A = ℕ} 0 1 = cc in omega arith)
      go absent e h = worked_leaf k q h

  -- both children of a node that is joined have leaves
  join-leaves : (k q : ℕ) → has_value (join_of w (suc k) q) ≡ true → (1 ≤ full k (2 * q)) × (1 ≤ full k (2 * q + 1))
  unfolding join_of value_of
  join-leaves k q h =
      let v = both_valued (value_of w absent k (2 * q)) (value_of w (value_of w absent k (2 * q)) k (2 * q + 1)) h in
      (value-leaf k (2 * q) absent v.0, value-leaf k (2 * q + 1) (value_of w absent k (2 * q)) v.1)

  visit-few : (k q joins : ℕ) (rows : List ℕ) (want : Bool) → Visit w k q rows want joins → joins ≤ left k rows + (full k q - 1)
  visit-few k q joins rows want rests = omega arith
  visit-few (suc k) q joins rows want (goes l r a b n wl wr e x y few all) =
      let sum : left (suc k) rows ≡ left k l + left k r + untried k rows = left_up k rows ∙ ap (λ (i : ℕ). i + untried k rows) (ap (left k) e ∙ left_both k l r) in
      rw all
      (sum-joined (left (suc k) rows) (left k l) (left k r) (untried k rows) a b n (full k (2 * q)) (full k (2 * q + 1)) (full (suc k) q) (to_join w (suc k) q want) (has_value (join_of w (suc k) q)) sum (visit-few k (2 * q) a l wl x) (visit-few k (2 * q + 1) b r wr y) few (two_full k q) (join-leaves k q))

  -- one join at most for each row and layer, one more for each layer, and one for each leaf
  pub pass_few : (h joins : ℕ) (rows : List ℕ) → Pass (written_by s (find_in levels)) h rows joins → joins ≤ (length rows + 1) * h + leaves_in levels (suc h)
  unfolding w full
  pass_few h joins rows p =
      let t = visit-few h 0 p.tree rows false p.visit in
      let u = below_all levels h 0 (suc h) in
      let f = p.few in
      let v = left-all h rows p.layers in
      let m : (length rows + 1) * h ≡ length rows * h + 1 * h = add-mul (length rows) 1 h in
      let e = p.all in
      omega arith

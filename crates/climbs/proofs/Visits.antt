-- Laws of a visit: a node's children were visited, then each row under them took its step, and the node's own value is at hand.
use Rattle.std.proofs.Common.{◌≡◌, Option, ℕ, ◌+◌, ◌-◌, ◌*◌, ◌/◌, ◌^◌, ◌<◌, ◌≤◌, Bool, true, false, ltb, List, length, get_or, sym, refl, ap, ◌∙◌, subst, ap₂, le_trans, arith, ltb-false, ltb-true}
use Rattle.std.specs.Option.{is_some}
use Rattle.spv.specs.Climb.{Sibling, absent, Siblings}
use Rattle.spv.specs.Values.{has_value, join_of, worked_out}
use Rattle.spv.proofs.ValuesLaws.{join-zero}
use Rattle.spv.proofs.PositionFitsLaws.{low-left, low_right}
use Rattle.climbs.specs.declared.pass.Known.{Known}
use Rattle.climbs.specs.Row.{start_of, state_of, Rows, Sorted, Under, NotAt, Reached, Moved}
use Rattle.climbs.proofs.RowLaws.{moved_none, moved_on, moved_up}
use Rattle.climbs.specs.Pass.{join_children, is_written, known_sibling, known_joins, Seen, Needed, beside_of, Feeds, Charged, AllStepped, Setting, Spot, Visited, VisitedCost}
use Rattle.climbs.specs.Count.{cost_of}
use Rattle.climbs.specs.Spent.{joined_cost, Spent}
use Rattle.climbs.proofs.SpentLaws.{spent-none, spent_on, spent-up, cost_here, cost_bottom, cost_joined}
use Rattle.climbs.proofs.PassLaws.{children-join, children-none, children_valued, worked_written, worked_join, beside-left, beside_right, under_right, reached-both, reached-grows}

-- ---- the value

module _ (w : Siblings) (k q : ℕ) (want : Bool) (here : Option Known) (seen : Seen w k q want here) (need : Bool) (asked : Needed want here need) where
  -- nothing is written where the value is needed
  free : need ≡ true → is_written (w k q) ≡ false
  free f = let a = asked.on f in sym (seen.told a.0) ∙ a.1

  known-here : need ≡ false → is_some here ≡ want
  known-here f = go want refl
    where
      go : (t : Bool) → want ≡ t → is_some here ≡ want
      go true e = asked.off f e ∙ sym e
      go false e = seen.unasked e ∙ sym e

  -- what is written is the value
  value-here : need ≡ false → want ≡ true → known_sibling here ≡ worked_out w k q
  value-here f g = seen.node g ∙ sym (worked_written w k q (sym (seen.told g) ∙ asked.off f g))

  -- at level 0 there is no other
  value_bottom : k ≡ 0 → need ≡ true → absent ≡ worked_out w k q
  value_bottom b f = sym (worked_join w k q (free f) ∙ join-zero w k q b)

  -- where nothing is written it is the join of the children
  pub value-joined : (k ≡ 0 → ⊥) → need ≡ true → (l r : Sibling) → l ≡ worked_out w (k - 1) (2 * q) → (has_value l ≡ true → r ≡ worked_out w (k - 1) (2 * q + 1)) → join_children l r ≡ worked_out w k q
  value-joined ne f l r el er = join (has_value l) refl ∙ children-join w k q ne ∙ sym (worked_join w k q (free f))
    where
      join : (t : Bool) → has_value l ≡ t → join_children l r ≡ join_children (worked_out w (k - 1) (2 * q)) (worked_out w (k - 1) (2 * q + 1))
      join true e = ap₂ join_children el (er e)
      join false e = children-none l r (worked_out w (k - 1) (2 * q + 1)) e ∙ ap (λ (x : Sibling). join_children x (worked_out w (k - 1) (2 * q + 1))) el

-- ---- where to visit

pub setting_on : (starts order states hashes states' hashes' : List ℕ) → length states' ≡ length states → length hashes' ≡ length hashes → Setting starts order states hashes → Setting starts order states' hashes'
setting_on starts order states hashes states' hashes' e f s =
    record { rows = s.rows; sorted = s.sorted; each = subst (λ (n : ℕ). length starts ≤ n) (sym e) s.each; room = subst (λ (n : ℕ). 32 * length starts ≤ n) (sym f) s.room }

module _ (starts order : List ℕ) (k q lo hi : ℕ) (want : Bool) (spot : Spot starts order k q lo hi want) (ne : k ≡ 0 → ⊥) where
  pub spot-left : (m : ℕ) (w : Bool) → lo ≤ m → m ≤ hi → Under starts order (k - 1) (2 * q) lo m → Spot starts order (k - 1) (2 * q) lo m w
  spot-left m w a b u =
      let l = spot.layers in
      let n = spot.within in
      record { layers = omega arith; below = λ e. omega arith; low = low-left k q ne l spot.low; span = a; within = omega arith; under = u }

  pub spot_right : (m : ℕ) (w : Bool) → Sorted starts order → lo ≤ m → m ≤ hi → (m < hi → start_of starts order m / 2 ^ (k - 1) ≡ 2 * q → ⊥) → Spot starts order (k - 1) (2 * q + 1) m hi w
  spot_right m w sorted a b n =
      let l = spot.layers in
      let e : k ≡ k - 1 + 1 = omega arith in
      record {
        layers = omega arith;
        below = λ e. omega arith;
        low = low_right k q ne l spot.low;
        span = b;
        within = spot.within;
        under = under_right starts order (k - 1) q lo m hi sorted spot.within a (subst (λ (n : ℕ). Under starts order n q lo hi) e spot.under) n;
      }

-- ---- the children were visited

module _ (w : Siblings) (starts order : List ℕ) (k q lo m hi : ℕ) (ne : k ≡ 0 → ⊥) (s₀ h₀ s₁ h₁ s₂ h₂ s₃ h₃ : List ℕ) (wl wr : Bool) (l r : Option Known)
    (a : lo ≤ m) (ul : Under starts order (k - 1) (2 * q) lo m) (ur : Under starts order (k - 1) (2 * q + 1) m hi)
    (v₁ : Visited w starts order s₀ h₀ s₁ h₁ (k - 1) (2 * q) lo m wl l)
    (v₂ : Visited w starts order s₁ h₁ s₂ h₂ (k - 1) (2 * q + 1) m hi wr r)
    (nl : wl ≡ false → Reached order s₀ k m hi)
    (nr : wr ≡ false → NotAt order s₁ (k - 1) lo m)
    (st : AllStepped starts order s₂ h₂ s₃ h₃ (k - 1) (2 * q) lo hi l r) where
  feeds : Feeds (worked_out w) (k - 1) (2 * q) l r
  feeds = record { even = omega arith; first = λ e. v₁.value (sym v₁.known ∙ e); second = λ e. v₂.value (sym v₂.known ∙ e) }

  -- a row that waits knows its sibling: one under the left child waited there before the right one was visited, and one under the right child had not come
  -- up to the node before the left one was
  fed : (i : ℕ) → lo ≤ i → i < hi → state_of order s₂ i ≡ k - 1 → is_some (beside_of (start_of starts order i / 2 ^ (k - 1)) (2 * q) l r) ≡ true
  unfolding Under NotAt Reached
  fed i b u e = side (ltb i m) refl
    where
      right : (t : Bool) → wr ≡ t → i < m → is_some r ≡ true
      right true f c = v₂.known ∙ f
      right false f c =
          let x = v₁.reached i b c in
          let z = v₂.moved.grows (get_or order i 0) in
          absurd (nr f i b c (omega arith))

      left : (t : Bool) → wl ≡ t → m ≤ i → is_some l ≡ true
      left true f c = v₁.known ∙ f
      left false f c =
          let x = nl f i c u in
          let y = v₁.moved.grows (get_or order i 0) in
          let z = v₂.moved.grows (get_or order i 0) in
          absurd (ne (omega arith))

      side : (t : Bool) → ltb i m ≡ t → is_some (beside_of (start_of starts order i / 2 ^ (k - 1)) (2 * q) l r) ≡ true
      side true f =
          let c = ltb-true i m f in
          ap (λ (x : Option Known). is_some x) (beside-left (start_of starts order i / 2 ^ (k - 1)) (2 * q) l r (ul i b c)) ∙ right wr refl c
      side false f =
          let c = ltb-false i m f in
          ap (λ (x : Option Known). is_some x) (beside_right (start_of starts order i / 2 ^ (k - 1)) (2 * q) l r (ur i c u)) ∙ left wl refl c

  up : (b x c y : List ℕ) → Moved (worked_out w) (k - 1) starts b x c y → Moved (worked_out w) k starts b x c y
  up b x c y v = moved_up (worked_out w) (k - 1) k starts b x c y (omega arith) v

  pass_moved : Moved (worked_out w) k starts s₀ h₀ s₃ h₃
  pass_moved =
      let f : k - 1 + 1 ≤ k = omega arith in
      moved_on (worked_out w) k starts s₀ h₀ s₁ h₁ s₃ h₃ (up s₀ h₀ s₁ h₁ v₁.moved)
      (moved_on (worked_out w) k starts s₁ h₁ s₂ h₂ s₃ h₃ (up s₁ h₁ s₂ h₂ v₂.moved) (moved_up (worked_out w) (k - 1 + 1) k starts s₂ h₂ s₃ h₃ f (st.moved (worked_out w) feeds)))

  pass_spent : (c₀ c₁ c₂ c₃ : List ℕ) → VisitedCost w starts s₀ h₀ c₀ s₁ h₁ c₁ (k - 1) (2 * q) wl l → VisitedCost w starts s₁ h₁ c₁ s₂ h₂ c₂ (k - 1) (2 * q + 1) wr r
      → Charged starts s₂ h₂ c₂ s₃ h₃ c₃ (k - 1) (2 * q) l r → Spent w k starts s₀ h₀ c₀ s₃ h₃ c₃
  unfolding Charged
  pass_spent c₀ c₁ c₂ c₃ p₁ p₂ ch =
      let b : k - 1 ≤ k = omega arith in
      let f : k - 1 + 1 ≤ k = omega arith in
      spent_on w k starts s₀ h₀ c₀ s₁ h₁ c₁ s₃ h₃ c₃ (spent-up w (k - 1) k starts s₀ h₀ c₀ s₁ h₁ c₁ b p₁.spent)
      (spent_on w k starts s₁ h₁ c₁ s₂ h₂ c₂ s₃ h₃ c₃ (spent-up w (k - 1) k starts s₁ h₁ c₁ s₂ h₂ c₂ b p₂.spent)
      (spent-up w (k - 1 + 1) k starts s₂ h₂ c₂ s₃ h₃ c₃ f
      (ch w feeds (record { first = λ e. p₁.joins (sym v₁.known ∙ e); second = λ e. p₂.joins (sym v₂.known ∙ e) }))))

  pass_reached : Reached order s₃ k lo hi
  pass_reached =
      let e : k - 1 + 1 ≡ k = omega arith in
      let x = reached-both order s₂ (k - 1) lo m hi (reached-grows order s₁ s₂ (k - 1) lo m v₂.moved.grows v₁.reached) v₂.reached in
      subst (λ (n : ℕ). Reached order s₃ n lo hi) e (st.past fed x)

  pub passed : (c₀ c₁ c₂ c₃ : List ℕ) → VisitedCost w starts s₀ h₀ c₀ s₁ h₁ c₁ (k - 1) (2 * q) wl l → VisitedCost w starts s₁ h₁ c₁ s₂ h₂ c₂ (k - 1) (2 * q + 1) wr r
      → Charged starts s₂ h₂ c₂ s₃ h₃ c₃ (k - 1) (2 * q) l r → Moved (worked_out w) k starts s₀ h₀ s₃ h₃ × Reached order s₃ k lo hi × Spent w k starts s₀ h₀ c₀ s₃ h₃ c₃
  passed c₀ c₁ c₂ c₃ p₁ p₂ ch = (pass_moved, pass_reached, pass_spent c₀ c₁ c₂ c₃ p₁ p₂ ch)

-- ---- what a visit leaves

pub setting_rows : (starts order states hashes : List ℕ) → Setting starts order states hashes → Rows order (length states)
unfolding Rows
setting_rows starts order states hashes s i l = le_trans (s.rows i l) s.each

module _ (w : Siblings) (k q : ℕ) (want : Bool) (here : Option Known) (seen : Seen w k q want here) (need : Bool) (asked : Needed want here need) (starts order s₀ h₀ : List ℕ) (lo hi : ℕ) where
  pub visited_bottom : k ≡ 0 → need ≡ true → (r : Option Known) → is_some r ≡ true → known_sibling r ≡ absent → Visited w starts order s₀ h₀ s₀ h₀ k q lo hi want r
  unfolding Reached
  visited_bottom b f r g e =
      record {
        moved = moved_none (worked_out w) k starts s₀ h₀;
        reached = λ i c u. omega arith;
        known = g ∙ sym (asked.on f).0;
        value = λ _. e ∙ value_bottom w k q want here seen need asked b f;
      }

  module _ (s₄ h₄ : List ℕ) (moved : Moved (worked_out w) k starts s₀ h₀ s₄ h₄) (reached : Reached order s₄ k lo hi) where
    pub visited_passed : need ≡ false → Visited w starts order s₀ h₀ s₄ h₄ k q lo hi want here
    visited_passed f = record { moved = moved; reached = reached; known = known-here w k q want here seen need asked f; value = value-here w k q want here seen need asked f }

    pub visited_joined : need ≡ true → (r : Option Known) → is_some r ≡ true → known_sibling r ≡ worked_out w k q → Visited w starts order s₀ h₀ s₄ h₄ k q lo hi want r
    visited_joined f r g e = record { moved = moved; reached = reached; known = g ∙ sym (asked.on f).0; value = λ _. e }

-- at level 0 every row has come up
pub reached_bottom : (order states : List ℕ) (k lo hi : ℕ) → k ≡ 0 → Reached order states k lo hi
unfolding Reached
reached_bottom order states k lo hi b i c u = omega arith

-- ---- what it costs

module _ (w : Siblings) (k q : ℕ) (want : Bool) (here : Option Known) (seen : Seen w k q want here) (need : Bool) (asked : Needed want here need) where
  -- what is written costs none
  cost_passed : need ≡ false → want ≡ true → known_joins here ≡ cost_of w k q
  cost_passed f g = seen.joins ∙ sym (cost_here w k q (sym (seen.told g) ∙ asked.off f g))

  -- a join costs itself and what the children cost, as the code adds it up
  pub cost_made : (k ≡ 0 → ⊥) → k ≤ 64 → need ≡ true → (l node : Sibling) (a b n : ℕ) (has : Bool) → l ≡ worked_out w (k - 1) (2 * q) → node ≡ worked_out w k q → has ≡ has_value node
      → a ≡ cost_of w (k - 1) (2 * q) → (has_value l ≡ true → b ≡ cost_of w (k - 1) (2 * q + 1)) → n ≡ joined_cost has a b → n ≡ cost_of w k q
  cost_made ne few f l node a b n has el en eh ea eb e =
      let unwritten = free w k q want here seen need asked f in
      let j : node ≡ join_of w k q = en ∙ worked_join w k q unwritten in
      e ∙ ap (λ (t : Bool). joined_cost t a b) (eh ∙ ap has_value j)
      ∙ cost_joined w k q ne few unwritten a b ea (λ v. eb (ap has_value el ∙ children_valued (worked_out w (k - 1) (2 * q)) (worked_out w (k - 1) (2 * q + 1)) (ap has_value (children-join w k q ne) ∙ v)))

module _ (w : Siblings) (k q : ℕ) (want : Bool) (here : Option Known) (seen : Seen w k q want here) (need : Bool) (asked : Needed want here need) (starts s₀ h₀ c₀ : List ℕ) where
  pub paid_bottom : k ≡ 0 → (r : Option Known) → known_joins r ≡ 0 → VisitedCost w starts s₀ h₀ c₀ s₀ h₀ c₀ k q want r
  paid_bottom b r e = record { spent = spent-none w k starts s₀ h₀ c₀; joins = λ _. e ∙ sym (cost_bottom w k q b) }

  module _ (s₄ h₄ c₄ : List ℕ) (spent : Spent w k starts s₀ h₀ c₀ s₄ h₄ c₄) where
    pub paid-passed : need ≡ false → VisitedCost w starts s₀ h₀ c₀ s₄ h₄ c₄ k q want here
    paid-passed f = record { spent = spent; joins = cost_passed w k q want here seen need asked f }

    pub paid-joined : (r : Option Known) → known_joins r ≡ cost_of w k q → VisitedCost w starts s₀ h₀ c₀ s₄ h₄ c₄ k q want r
    paid-joined r e = record { spent = spent; joins = λ _. e }

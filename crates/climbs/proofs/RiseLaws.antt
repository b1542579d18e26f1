-- Laws of rows four at a time.
use Rattle.std.proofs.Common.{◌≡◌, Option, Some, None, Result as Answer, Ok, Err, ℕ, ◌+◌, ◌*◌, ◌/◌, ◌^◌, ◌<◌, ◌≤◌, Bool, true, false, eqb, List, ◌++◌, length, get_or, set, sym, refl, ap, ◌∙◌, ap₂, arith, get_or-set_other, eqb-true}
use borrow.Author.Tests.{eqb-false}
use Rattle.hash.specs.Sha256.{sha256d}
use Rattle.hash.proofs.Sha256Laws.{sha256d-length}
use Rattle.format.proofs.BytesLaws.{set-inside}
use Rattle.format.specs.Bytes.{hash_at}
use Rattle.format.specs.Parse.{pick}
use Rattle.lanes.specs.Lanes as L
use Rattle.lanes.specs.declared.Nodes.{Nodes}
use Rattle.spv.specs.Climb.{Sibling, Siblings, sibling_position, odd, step}
use Rattle.spv.specs.Values.{worked_out}
use Rattle.spv.specs.Shapes.{sibling_of, step_of}
use Rattle.spv.proofs.Stored.{stored_other}
use Rattle.format.specs.declared.refusal.Refusal.{Refusal}
use Rattle.spv.specs.declared.climb.Halves.{Halves}
use Rattle.climbs.specs.declared.pass.Known.{Known}
use Rattle.climbs.specs.Row.{made_of, hashes_by, states_after, hashes_after, state_by, Moved}
use Rattle.climbs.proofs.RowLaws.{makes, advance_stays, advance_moves, moved_none, moved_on}
use Rattle.climbs.specs.Spent.{costs_after, Spent}
use Rattle.climbs.proofs.SpentLaws.{spent-none, spent_on, advance-spends, charge_stays, cost_here}
use Rattle.climbs.specs.Pass.{is_written, Seen}
use Rattle.climbs.proofs.PassLaws.{worked_written}
use Rattle.climbs.specs.Rise.{TurnRight, move_of, states_moved, hashes_moved, costs_moved}

module _ (w : Siblings) (starts states hashes : List ℕ) (row k : ℕ) where
  pub stays_right : (t : Option (Answer Halves Refusal)) → t ≡ None → TurnRight w starts states hashes row k t
  unfolding TurnRight
  stays_right t e = rw e tt

  pub moves_right : (turned : Answer Halves Refusal) (j q : ℕ) (r : Known) → j ≡ get_or starts row 0 / 2 ^ k → q ≡ sibling_position j → Seen w k q true (Some r)
      → step_of turned ≡ step (sibling_of r.node) (odd j) (hash_at hashes (32 * row)) → TurnRight w starts states hashes row k (Some turned)
  unfolding TurnRight
  moves_right turned j q r ej eq seen e =
      let at : q ≡ sibling_position (get_or starts row 0 / 2 ^ k) = eq ∙ ap sibling_position ej in
      let there : is_written (w k q) ≡ true = sym (seen.told refl) in (
        ap (λ (n : ℕ). is_written (w k n)) (sym at) ∙ there,
        λ _. e ∙ ap₂ (λ (y : Sibling) (n : ℕ). step y (odd n) (hash_at hashes (32 * row))) (seen.node refl ∙ sym (worked_written w k q there) ∙ ap (worked_out w k) at) ej,
      )

-- what a step at a layer leaves: every row comes to what it came to, and what was right of a row stays so
pub record After (w : Siblings) (k : ℕ) (starts s h c s' h' c' : List ℕ) : Type 0 where
  pub moved : Moved (worked_out w) (k + 1) starts s h s' h'
  pub spent : Spent w (k + 1) starts s h c s' h' c'
  pub turns : (i : ℕ) (t : Option (Answer Halves Refusal)) → TurnRight w starts s h i k t → TurnRight w starts s' h' i k t

module _ (w : Siblings) (k : ℕ) (starts : List ℕ) where
  after_none : (s h c : List ℕ) → After w k starts s h c s h c
  after_none s h c = record { moved = moved_none (worked_out w) (k + 1) starts s h; spent = spent-none w (k + 1) starts s h c; turns = λ i t f. f }

  pub after_on : (s h c s₁ h₁ c₁ s₂ h₂ c₂ : List ℕ) → After w k starts s h c s₁ h₁ c₁ → After w k starts s₁ h₁ c₁ s₂ h₂ c₂ → After w k starts s h c s₂ h₂ c₂
  after_on s h c s₁ h₁ c₁ s₂ h₂ c₂ a b =
      record {
        moved = moved_on (worked_out w) (k + 1) starts s h s₁ h₁ s₂ h₂ a.moved b.moved;
        spent = spent_on w (k + 1) starts s h c s₁ h₁ c₁ s₂ h₂ c₂ a.spent b.spent;
        turns = λ i t f. b.turns i t (a.turns i t f);
      }

module _ (s h : List ℕ) (row k : ℕ) (made : Answer (List ℕ) Refusal) (whole : (parent : List ℕ) → made ≡ Ok parent → length parent ≡ 32) (room : 32 * row + 32 ≤ length h) (i : ℕ) (ne : i ≡ row → ⊥) where
  state-other : get_or (states_after s row k made) i 0 ≡ get_or s i 0
  unfolding states_after
  state-other = go (eqb (get_or s row 0) k)
    where
      go : (b : Bool) → get_or (pick b (set s row (state_by k made)) s) i 0 ≡ get_or s i 0
      go true = get_or-set_other s row i (state_by k made) 0 ne
      go false = refl

  by_other : (q : Answer (List ℕ) Refusal) → made ≡ q → hash_at (hashes_by h row q) (32 * i) ≡ hash_at h (32 * i)
  unfolding hashes_by
  by_other (Ok parent) e = let n = whole parent e in ap (λ (l : List ℕ). hash_at l (32 * i)) (set-inside h row parent (omega arith)) ∙ stored_other h parent row n room i ne
  by_other (Err refusal) e = refl

  hash-other : hash_at (hashes_after s h row k made) (32 * i) ≡ hash_at h (32 * i)
  unfolding hashes_after
  hash-other = go (eqb (get_or s row 0) k)
    where
      go : (b : Bool) → hash_at (pick b (hashes_by h row made) h) (32 * i) ≡ hash_at h (32 * i)
      go true = by_other made refl
      go false = refl

pub whole_made : (turned : Answer Halves Refusal) (parent : List ℕ) → made_of turned ≡ Ok parent → length parent ≡ 32
whole_made (Ok h) parent e = let p : sha256d (h.left ++ h.right) ≡ parent = cc in ap length (sym p) ∙ sha256d-length (h.left ++ h.right)
whole_made (Err refusal) parent e = let z : ◌≡◌ {A = ℕ} 0 1 = cc in absurd (omega arith)

-- a row that stands at the layer
module _ (w : Siblings) (k : ℕ) (starts s h c : List ℕ) (row : ℕ) (turned : Answer Halves Refusal) (few : k < 64) (inside : row < length s) (room : 32 * row + 32 ≤ length h)
    (here : get_or s row 0 ≡ k) (free : is_written (w k (sibling_position (get_or starts row 0 / 2 ^ k))) ≡ true)
    (told : step_of turned ≡ step (worked_out w k (sibling_position (get_or starts row 0 / 2 ^ k))) (odd (get_or starts row 0 / 2 ^ k)) (hash_at h (32 * row))) where
  abbrev s₁ : List ℕ
  s₁ = states_after s row k (made_of turned)

  abbrev h₁ : List ℕ
  h₁ = hashes_after s h row k (made_of turned)

  stood : (i : ℕ) (u : Answer Halves Refusal)
      → (get_or s i 0 ≡ k → step_of u ≡ step (worked_out w k (sibling_position (get_or starts i 0 / 2 ^ k))) (odd (get_or starts i 0 / 2 ^ k)) (hash_at h (32 * i)))
      → k < get_or s₁ row 0 → get_or s₁ i 0 ≡ k → (b : Bool) → eqb i row ≡ b
      → step_of u ≡ step (worked_out w k (sibling_position (get_or starts i 0 / 2 ^ k))) (odd (get_or starts i 0 / 2 ^ k)) (hash_at h₁ (32 * i))
  stood i u f past e true g = let z = eqb-true i row g in let y : get_or s₁ row 0 ≡ k = ap (λ (n : ℕ). get_or s₁ n 0) (sym z) ∙ e in absurd (omega arith)
  stood i u f past e false g =
      let z = eqb-false i row g in
      f (sym (state-other s h row k (made_of turned) (whole_made turned) room i z) ∙ e)
      ∙ ap (λ (x : List ℕ). step (worked_out w k (sibling_position (get_or starts i 0 / 2 ^ k))) (odd (get_or starts i 0 / 2 ^ k)) x) (sym (hash-other s h row k (made_of turned) (whole_made turned) room i z))

  still : k < get_or s₁ row 0 → (i : ℕ) (u : Option (Answer Halves Refusal)) → TurnRight w starts s h i k u → TurnRight w starts s₁ h₁ i k u
  unfolding TurnRight
  still past i None f = f
  still past i (Some u) f = (f.0, λ e. stood i u f.1 past e (eqb i row) refl)

  after-step : After w k starts s h c s₁ h₁ (costs_after s c row k (made_of turned) 0)
  after-step =
      let v = makes turned (step (worked_out w k (sibling_position (get_or starts row 0 / 2 ^ k))) (odd (get_or starts row 0 / 2 ^ k)) (hash_at h (32 * row))) told in
      let m = advance_moves (worked_out w) starts s h row k (made_of turned) few here inside room v in
      record {
        moved = m.0;
        spent = advance-spends w starts s h c row k 0 (made_of turned) few here inside room v (sym (cost_here w k (sibling_position (get_or starts row 0 / 2 ^ k)) free));
        turns = still m.1;
      }

-- one row
module _ (w : Siblings) (k : ℕ) (starts s h c : List ℕ) (row : ℕ) (few : k < 64) (inside : row < length s) (room : 32 * row + 32 ≤ length h) where
  moved_by : (turned : Answer Halves Refusal) → TurnRight w starts s h row k (Some turned) → (b : Bool) → eqb (get_or s row 0) k ≡ b
      → After w k starts s h c (states_after s row k (made_of turned)) (hashes_after s h row k (made_of turned)) (costs_after s c row k (made_of turned) 0)
  unfolding TurnRight
  moved_by turned right true g =
      let here = eqb-true (get_or s row 0) k g in
      after-step w k starts s h c row turned few inside room here right.0 (right.1 here)
  moved_by turned right false g =
      let ne = eqb-false (get_or s row 0) k g in
      let v = advance_stays s h row k (made_of turned) ne in
      rw (v.0, v.1, charge_stays s c row k 0 (made_of turned) ne) (after_none w k starts s h c)

  made_by : (t : Option (Answer Halves Refusal)) → TurnRight w starts s h row k t
      → After w k starts s h c (states_moved s row k (move_of t)) (hashes_moved s h row k (move_of t)) (costs_moved s c row k (move_of t))
  made_by None right = after_none w k starts s h c
  made_by (Some turned) right = moved_by turned right (eqb (get_or s row 0) k) refl

  pub after_one : (s' h' c' : List ℕ) (t : Option (Answer Halves Refusal)) (m : Option (Answer (List ℕ) Refusal)) → m ≡ move_of t → TurnRight w starts s h row k t
      → (s' ≡ states_moved s row k m) × (h' ≡ hashes_moved s h row k m) × (c' ≡ costs_moved s c row k m) → After w k starts s h c s' h' c'
  after_one s' h' c' t m em right e = rw (e.0, e.1, e.2, em) (made_by t right)

-- the parents in their lanes
module _ (a b c d : Halves) (p : Nodes) (e : (i : ℕ) → L.node i p ≡ sha256d (L.in_lane i a.left b.left c.left d.left ++ L.in_lane i a.right b.right c.right d.right)) where
  pub lanes_are : (p.a ≡ sha256d (a.left ++ a.right)) × (p.b ≡ sha256d (b.left ++ b.right)) × (p.c ≡ sha256d (c.left ++ c.right)) × (p.d ≡ sha256d (d.left ++ d.right))
  unfolding L.node L.in_lane
  lanes_are = (e 0, e 1, e 2, e 3)

-- a row that joins two halves
pub move-joins : (t : Option (Answer Halves Refusal)) (h : Halves) (parent : List ℕ) → t ≡ Some (Ok h) → parent ≡ sha256d (h.left ++ h.right) → Some (Ok parent) ≡ move_of t
move-joins t h parent e f = rw (e, f) refl

-- four rows, which need not differ
module _ (w : Siblings) (k : ℕ) (starts : List ℕ) (a b c d : ℕ) (ta tb tc td : Option (Answer Halves Refusal)) (ma mb mc md : Option (Answer (List ℕ) Refusal))
    (s₀ h₀ c₀ s₁ h₁ c₁ s₂ h₂ c₂ s₃ h₃ c₃ s₄ h₄ c₄ : List ℕ) (few : k < 64) (rows : length starts ≤ length s₀) (room : 32 * length starts ≤ length h₀)
    (ia : a < length starts) (ib : b < length starts) (ic : c < length starts) (id : d < length starts)
    (l₁ : length s₁ ≡ length s₀) (l₂ : length s₂ ≡ length s₁) (l₃ : length s₃ ≡ length s₂) (m₁ : length h₁ ≡ length h₀) (m₂ : length h₂ ≡ length h₁) (m₃ : length h₃ ≡ length h₂)
    (made : (ma ≡ move_of ta) × (mb ≡ move_of tb) × (mc ≡ move_of tc) × (md ≡ move_of td))
    (ra : TurnRight w starts s₀ h₀ a k ta) (rb : TurnRight w starts s₀ h₀ b k tb) (rc : TurnRight w starts s₀ h₀ c k tc) (rd : TurnRight w starts s₀ h₀ d k td)
    (ea : (s₁ ≡ states_moved s₀ a k ma) × (h₁ ≡ hashes_moved s₀ h₀ a k ma) × (c₁ ≡ costs_moved s₀ c₀ a k ma))
    (eb : (s₂ ≡ states_moved s₁ b k mb) × (h₂ ≡ hashes_moved s₁ h₁ b k mb) × (c₂ ≡ costs_moved s₁ c₁ b k mb))
    (ec : (s₃ ≡ states_moved s₂ c k mc) × (h₃ ≡ hashes_moved s₂ h₂ c k mc) × (c₃ ≡ costs_moved s₂ c₂ c k mc))
    (ed : (s₄ ≡ states_moved s₃ d k md) × (h₄ ≡ hashes_moved s₃ h₃ d k md) × (c₄ ≡ costs_moved s₃ c₃ d k md)) where
  pub rise_four : Moved (worked_out w) (k + 1) starts s₀ h₀ s₄ h₄ × Spent w (k + 1) starts s₀ h₀ c₀ s₄ h₄ c₄
  rise_four =
      let va = after_one w k starts s₀ h₀ c₀ a few (omega arith) (omega arith) s₁ h₁ c₁ ta ma made.0 ra ea in
      let vb = after_one w k starts s₁ h₁ c₁ b few (omega arith) (omega arith) s₂ h₂ c₂ tb mb made.1 (va.turns b tb rb) eb in
      let ab = after_on w k starts s₀ h₀ c₀ s₁ h₁ c₁ s₂ h₂ c₂ va vb in
      let vc = after_one w k starts s₂ h₂ c₂ c few (omega arith) (omega arith) s₃ h₃ c₃ tc mc made.2 (ab.turns c tc rc) ec in
      let ac = after_on w k starts s₀ h₀ c₀ s₂ h₂ c₂ s₃ h₃ c₃ ab vc in
      let vd = after_one w k starts s₃ h₃ c₃ d few (omega arith) (omega arith) s₄ h₄ c₄ td md made.3 (ac.turns d td rd) ed in
      let ad = after_on w k starts s₀ h₀ c₀ s₃ h₃ c₃ s₄ h₄ c₄ ac vd in
      (ad.moved, ad.spent)

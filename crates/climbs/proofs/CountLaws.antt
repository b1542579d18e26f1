-- Laws of the count of joins (02, Item 11).
use Rattle.std.proofs.Common.{◌≡◌, Option, Some, None, ℕ, zero, suc, ◌+◌, ◌-◌, ◌*◌, ◌/◌, ◌^◌, ◌<◌, ◌≤◌, Bool, true, false, List, ◌++◌, get_or, sym, refl, ap, ◌∙◌, ap₂, zero-lt-suc, pow-suc, arith}
use native.Mathlib.Nat.{pow-zero}
use Rattle.hash.specs.Sha256.{sha256d}
use Rattle.format.specs.declared.leaf.Leaf.{Leaf}
use Rattle.format.specs.Parse.{pick}
use Rattle.spv.specs.Result.{accepted}
use Rattle.spv.specs.Climb.{Sibling, value, copied, absent, Siblings, Step, joins, fails, step, odd, sibling_position, sibling_positions, ascend, ascend_by, end_of, end_by}
use Rattle.spv.proofs.ClimbLaws.{ascended}
use Rattle.spv.specs.Values.{has_value, value_by, join_both, join_of, value_of, worked_out}
use Rattle.spv.proofs.ValuesLaws.{join-same, worked_same}
use Rattle.spv.specs.Joins.{one, joins_by, joins_made, sibling_joins, climb_joins, leaves_in}
use Rattle.spv.proofs.JoinsLaws.{climb_few}
use Rattle.spv.specs.Siblings.{written_by, find_in}
use Rattle.climbs.specs.Count.{join_cost, cost_of, climb_cost, start_cost}
use Rattle.climbs.proofs.CountEnds.{AllWritten}

left_valued : (l r : Sibling) → has_value (join_both l r) ≡ true → has_value l ≡ true
unfolding join_both has_value
left_valued (value l) r e = refl
left_valued copied r e = e
left_valued absent r e = e

module _ (w : Siblings) where
  -- a node hands its cost up: it is found from its children's as they are handed up
  pub cost_up : (k q : ℕ) → (k ≡ 0 → ⊥) → join_cost w k q ≡ pick (has_value (join_of w k q)) (1 + cost_of w (k - 1) (2 * q) + cost_of w (k - 1) (2 * q + 1)) 0
  unfolding join_cost cost_of
  cost_up k q ne = let e : k ≡ suc (k - 1) = omega arith in ap (λ (m : ℕ). join_cost w m q) e ∙ ap (λ (m : ℕ). pick (has_value (join_of w m q)) (1 + cost_of w (k - 1) (2 * q) + cost_of w (k - 1) (2 * q + 1)) 0) (sym e)

  -- ---- a sibling that is written, or can't be had, costs none

  pub written_none : (k q : ℕ) → (w k q ≡ absent → ⊥) → cost_of w k q ≡ 0
  unfolding cost_of joins_by
  written_none k q ne = go (w k q) refl
    where
      go : (x : Sibling) → w k q ≡ x → joins_by x (join_cost w k q) ≡ 0
      go (value p) e = refl
      go copied e = refl
      go absent e = absurd (ne e)

  join-none : (k q : ℕ) → has_value (join_of w k q) ≡ false → join_cost w k q ≡ 0
  unfolding join_cost
  join-none zero q e = refl
  join-none (suc k) q e = rw e

  pub missing-none : (k q : ℕ) → worked_out w k q ≡ absent → cost_of w k q ≡ 0
  unfolding cost_of joins_by worked_out value_of value_by has_value
  missing-none k q e = go (w k q) refl e
    where
      go : (x : Sibling) → w k q ≡ x → value_by x copied (join_of w k q) ≡ absent → joins_by x (join_cost w k q) ≡ 0
      go (value p) f g = refl
      go copied f g = refl
      go absent f g = join-none k q (ap has_value g)

  -- ---- where all siblings are written, a climb costs one join for each layer that it makes

  -- what a climb costs by its step
  unfoldable step_cost : ℕ → ℕ → ℕ → Step → ℕ
  step_cost k n j t = elim t [ joins a b ↦ cost_of w k (sibling_position j) + 1 + climb_cost w (suc k) n (j / 2) (sha256d (a ++ b)) | fails number ↦ cost_of w k (sibling_position j) ]

  pub climb_joins_lem : (k n j : ℕ) (c l r : List ℕ) → step (worked_out w k (sibling_position j)) (odd j) c ≡ joins l r → climb_cost w k (suc n) j c ≡ cost_of w k (sibling_position j) + 1 + climb_cost w (suc k) n (j / 2) (sha256d (l ++ r))
  unfolding climb_cost step_cost
  climb_joins_lem k n j c l r e = ap (step_cost k n j) e

  pub climb_fails : (k n j : ℕ) (c : List ℕ) (number : ℕ) → step (worked_out w k (sibling_position j)) (odd j) c ≡ fails number → climb_cost w k (suc n) j c ≡ cost_of w k (sibling_position j)
  unfolding climb_cost step_cost
  climb_fails k n j c number e = ap (step_cost k n j) e

  written_on : (k n j : ℕ) → AllWritten w k (suc n) j → AllWritten w (suc k) n (j / 2)
  unfolding AllWritten sibling_positions
  written_on k n j f m h e =
      let z : suc k + m ≡ k + suc m = omega arith in
      f (suc m) (omega arith) (ap (λ (x : ℕ). w x (get_or (sibling_positions (j / 2) n) m 0)) (sym z) ∙ e)

  written-first : (k n j : ℕ) → AllWritten w k (suc n) j → cost_of w k (sibling_position j) ≡ 0
  unfolding AllWritten sibling_positions
  written-first k n j f = written_none k (sibling_position j) (λ e. f 0 (zero-lt-suc n) (let z : k + 0 ≡ k = omega arith in ap (λ (x : ℕ). w x (sibling_position j)) z ∙ e))

  pub written_most : (k n j : ℕ) (c : List ℕ) → AllWritten w k n j → climb_cost w k n j c ≤ n
  unfolding climb_cost step_cost
  written_most k zero j c f = omega arith
  written_most k (suc n) j c f = go (step (worked_out w k (sibling_position j)) (odd j) c) (λ d. written_most (suc k) n (j / 2) d (written_on k n j f))
    where
      go : (t : Step) → ((d : List ℕ) → climb_cost w (suc k) n (j / 2) d ≤ n) → step_cost k n j t ≤ suc n
      go (joins a b) up = omega (arith, written-first k n j f, up (sha256d (a ++ b)))
      go (fails number) up = omega (arith, written-first k n j f)

  pub written_exact : (k n j : ℕ) (c r : List ℕ) → AllWritten w k n j → end_of c (ascend (worked_out w) k n j c) ≡ accepted r → climb_cost w k n j c ≡ n
  unfolding climb_cost step_cost ascend_by end_by
  written_exact k zero j c r f e = refl
  written_exact k (suc n) j c r f e = go (step (worked_out w k (sibling_position j)) (odd j) c) e (λ d g. written_exact (suc k) n (j / 2) d r (written_on k n j f) g)
    where
      go : (t : Step) → end_of c (ascended (worked_out w) k n j (worked_out w k (sibling_position j)) t) ≡ accepted r
          → ((d : List ℕ) → end_of d (ascend (worked_out w) (suc k) n (j / 2) d) ≡ accepted r → climb_cost w (suc k) n (j / 2) d ≡ n) → step_cost k n j t ≡ suc n
      go (joins a b) e up = omega (arith, written-first k n j f, up (sha256d (a ++ b)) e)
      go (fails number) e up = absurd (let z : ◌≡◌ {A = ℕ} 0 1 = cc in omega arith)

  -- ---- whatever is written, the count fits 64 bits: a climb of 64 layers costs less than 2 ^ 64

  by_low : (x : Sibling) (n m : ℕ) → n < m → joins_by x n < m
  unfolding joins_by
  by_low (value p) n m h = omega arith
  by_low copied n m h = omega arith
  by_low absent n m h = h

  join-low : (k q : ℕ) → join_cost w k q < 2 ^ k
  unfolding join_cost
  join-low zero q = omega (arith, pow-zero 2)
  join-low (suc k) q =
      go (has_value (join_of w (suc k) q)) (by_low (w k (2 * q)) (join_cost w k (2 * q)) (2 ^ k) (join-low k (2 * q))) (by_low (w k (2 * q + 1)) (join_cost w k (2 * q + 1)) (2 ^ k) (join-low k (2 * q + 1)))
    where
      go : (t : Bool) → joins_by (w k (2 * q)) (join_cost w k (2 * q)) < 2 ^ k → joins_by (w k (2 * q + 1)) (join_cost w k (2 * q + 1)) < 2 ^ k
          → pick t (1 + joins_by (w k (2 * q)) (join_cost w k (2 * q)) + joins_by (w k (2 * q + 1)) (join_cost w k (2 * q + 1))) 0 < 2 ^ suc k
      go true l r = omega (arith, pow-suc 2 k)
      go false l r = omega (arith, pow-suc 2 k)

  pub cost_low : (k q : ℕ) → cost_of w k q < 2 ^ k
  unfolding cost_of
  cost_low k q = by_low (w k q) (join_cost w k q) (2 ^ k) (join-low k q)

  pub climb_low : (k n j : ℕ) (c : List ℕ) → climb_cost w k n j c + 2 ^ k ≤ 2 ^ (k + n)
  unfolding climb_cost step_cost
  climb_low k zero j c = let e : k + 0 ≡ k = omega arith in omega (arith, ap (λ (x : ℕ). 2 ^ x) e)
  climb_low k (suc n) j c = go (step (worked_out w k (sibling_position j)) (odd j) c) (λ d. climb_low (suc k) n (j / 2) d)
    where
      Above : Type 0
      Above = (d : List ℕ) → climb_cost w (suc k) n (j / 2) d + 2 ^ suc k ≤ 2 ^ (suc k + n)

      next : Above → (d : List ℕ) → climb_cost w (suc k) n (j / 2) d + 2 * 2 ^ k ≤ 2 ^ (k + suc n)
      next up d = let e : suc k + n ≡ k + suc n = omega arith in omega (arith, up d, pow-suc 2 k, ap (λ (x : ℕ). 2 ^ x) e)

      go : (t : Step) → Above → step_cost k n j t + 2 ^ k ≤ 2 ^ (k + suc n)
      go (joins a b) up = omega (arith, cost_low k (sibling_position j), next up (sha256d (a ++ b)))
      go (fails number) up = omega (arith, cost_low k (sibling_position j), next up c)

  -- ---- and no more than its layers and the leaves of its path

  by_most : (x : Sibling) (n m : ℕ) → n ≤ m → joins_by x n ≤ joins_by x m
  unfolding joins_by
  by_most (value p) n m h = omega arith
  by_most copied n m h = omega arith
  by_most absent n m h = h

  join_most : (k q : ℕ) → join_cost w k q ≤ joins_made w k q
  unfolding join_cost joins_made join_of value_of one
  join_most zero q = omega arith
  join_most (suc k) q =
      go (has_value (join_of w (suc k) q)) refl (has_value (value_of w absent k (2 * q))) refl
      (left_valued (value_of w absent k (2 * q)) (value_of w (value_of w absent k (2 * q)) k (2 * q + 1)))
      (by_most (w k (2 * q)) (join_cost w k (2 * q)) (joins_made w k (2 * q)) (join_most k (2 * q)))
      (by_most (w k (2 * q + 1)) (join_cost w k (2 * q + 1)) (joins_made w k (2 * q + 1)) (join_most k (2 * q + 1)))
    where
      L : ℕ
      L = joins_by (w k (2 * q)) (join_cost w k (2 * q))

      L' : ℕ
      L' = joins_by (w k (2 * q)) (joins_made w k (2 * q))

      R : ℕ
      R = joins_by (w k (2 * q + 1)) (join_cost w k (2 * q + 1))

      R' : ℕ
      R' = joins_by (w k (2 * q + 1)) (joins_made w k (2 * q + 1))

      go : (t : Bool) → has_value (join_of w (suc k) q) ≡ t → (u : Bool) → has_value (value_of w absent k (2 * q)) ≡ u
          → (has_value (join_of w (suc k) q) ≡ true → has_value (value_of w absent k (2 * q)) ≡ true)
          → L ≤ L' → R ≤ R' → pick t (1 + L + R) 0 ≤ L' + pick u (R' + one t) 0
      go false e u f have l r = omega arith
      go true e true f have l r = omega arith
      go true e false f have l r = absurd (let x = have e in let z : ◌≡◌ {A = ℕ} 0 1 = cc in omega arith)

  cost_most : (k q : ℕ) → cost_of w k q ≤ sibling_joins w k q
  unfolding cost_of sibling_joins
  cost_most k q = by_most (w k q) (join_cost w k q) (joins_made w k q) (join_most k q)

  climb_most : (k n j : ℕ) (c : List ℕ) → climb_cost w k n j c ≤ n + climb_joins w k n j
  unfolding climb_cost climb_joins step_cost
  climb_most k zero j c = omega arith
  climb_most k (suc n) j c = go (step (worked_out w k (sibling_position j)) (odd j) c) (λ d. climb_most (suc k) n (j / 2) d)
    where
      go : (t : Step) → ((d : List ℕ) → climb_cost w (suc k) n (j / 2) d ≤ n + climb_joins w (suc k) n (j / 2)) → step_cost k n j t ≤ suc n + (sibling_joins w k (sibling_position j) + climb_joins w (suc k) n (j / 2))
      go (joins a b) up = omega (arith, cost_most k (sibling_position j), up (sha256d (a ++ b)))
      go (fails number) up = omega (arith, cost_most k (sibling_position j))

pub climb_leaves : (s : List ℕ) (levels : List (List Leaf)) (h i : ℕ) (c : List ℕ) → climb_cost (written_by s (find_in levels)) 0 h i c ≤ h + leaves_in levels h
climb_leaves s levels h i c = omega (arith, climb_most (written_by s (find_in levels)) 0 h i c, climb_few s levels h i)

-- ---- forms that agree below a layer cost the same

module _ (w v : Siblings) (h : ℕ) (f : (k q : ℕ) → k < h → w k q ≡ v k q) where
  join_cost_same : (k q : ℕ) → k ≤ h → join_cost w k q ≡ join_cost v k q
  unfolding join_cost
  join_cost_same zero q b = refl
  join_cost_same (suc k) q b =
      let c : k < h = omega arith in
      let d : k ≤ h = omega arith in
      rw (join-same w v h f (suc k) q b, f k (2 * q) c, f k (2 * q + 1) c, join_cost_same k (2 * q) d, join_cost_same k (2 * q + 1) d)

  cost_same : (k q : ℕ) → k < h → cost_of w k q ≡ cost_of v k q
  unfolding cost_of
  cost_same k q b = rw (f k q b, join_cost_same k q (omega arith))

  climb_cost_same : (k n j : ℕ) (c : List ℕ) → k + n ≤ h → climb_cost w k n j c ≡ climb_cost v k n j c
  unfolding climb_cost
  climb_cost_same k zero j c b = refl
  climb_cost_same k (suc n) j c b = go (step (worked_out w k (sibling_position j)) (odd j) c) refl (λ d. climb_cost_same (suc k) n (j / 2) d (omega arith))
    where
      below : k < h
      below = omega arith

      at : (t : Step) → step (worked_out w k (sibling_position j)) (odd j) c ≡ t → step (worked_out v k (sibling_position j)) (odd j) c ≡ t
      at t e = ap (λ (x : Sibling). step x (odd j) c) (sym (worked_same w v h f k (sibling_position j) below)) ∙ e

      go : (t : Step) → step (worked_out w k (sibling_position j)) (odd j) c ≡ t → ((d : List ℕ) → climb_cost w (suc k) n (j / 2) d ≡ climb_cost v (suc k) n (j / 2) d) → climb_cost w k (suc n) j c ≡ climb_cost v k (suc n) j c
      go (joins a b) e up =
          climb_joins_lem w k n j c a b e
          ∙ ap₂ (λ (x y : ℕ). x + 1 + y) (cost_same k (sibling_position j) below) (up (sha256d (a ++ b)))
          ∙ sym (climb_joins_lem v k n j c a b (at (joins a b) e))
      go (fails number) e up = climb_fails w k n j c number e ∙ cost_same k (sibling_position j) below ∙ sym (climb_fails v k n j c number (at (fails number) e))

  pub start-same : (id : List ℕ) (x : Option ℕ) → start_cost w h id x ≡ start_cost v h id x
  unfolding start_cost
  start-same id (Some i) = climb_cost_same 0 h i id (omega arith)
  start-same id None = refl

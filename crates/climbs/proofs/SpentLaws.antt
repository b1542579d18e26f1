-- Laws of what rows spend.
use Rattle.std.proofs.Common.{◌≡◌, Option, Some, None, Result as Answer, Ok, Err, ℕ, suc, ◌+◌, ◌-◌, ◌*◌, ◌/◌, ◌%◌, ◌^◌, ◌<◌, ◌≤◌, Bool, true, false, eqb, ltb, List, ◌++◌, length, get_or, set, sym, refl, ap, ◌∙◌, subst, le_trans, le_refl, div-one, arith, length-set, get_or-set_other, get_or-set_same, pow_mono, le-ltb, lt-ltb, eq-eqb, ne_eqb, eqb-true}
use native.Mathlib.Nat.{sub-zero}
use lib.Seq.{set_out}
use borrow.Author.Tests.{eqb-false}
use Rattle.hash.specs.Sha256.{sha256d}
use Rattle.hash.proofs.Sha256Laws.{sha256d-length}
use Rattle.format.specs.declared.refusal.Refusal.{Refusal}
use Rattle.format.specs.Refusals.{refusal_number}
use Rattle.format.specs.Bytes.{set_hash, hash_at}
use Rattle.format.proofs.BytesLaws.{set-inside}
use Rattle.format.specs.Parse.{pick}
use Rattle.spv.specs.Climb.{Sibling, value, copied, absent, Siblings, sibling_position, odd, Step, joins, fails, step}
use Rattle.spv.specs.Values.{has_value, join_of, worked_out}
use Rattle.spv.specs.Joins.{joins_by}
use Rattle.spv.proofs.Stored.{stored_here, stored_other}
use Rattle.climbs.specs.Row.{states_after, hashes_after, Reached}
use Rattle.climbs.proofs.RowLaws.{half_above, fails-number, Makes, advance-joins, advance-fails}
use Rattle.climbs.specs.Order.{Placed}
use Rattle.climbs.specs.Pass.{is_written}
use Rattle.climbs.specs.Count.{join_cost, cost_of, climb_cost, start_cost}
use Rattle.climbs.proofs.CountLaws.{cost_up, cost_low, written_none, climb_low, climb_joins_lem, climb_fails}
use Rattle.climbs.specs.Spent.{U64, owes, owes_at, paid, costs_after, joined_cost, Spent, Settled}

-- ---- one row

module _ (w : Siblings) (h start k : ℕ) (c : List ℕ) (b : k < h) (few : k < 64) where
  -- a climb with a layer left
  one_more : climb_cost w k (h - k) (start / 2 ^ k) c ≡ climb_cost w k (suc (h - (k + 1))) (start / 2 ^ k) c
  one_more = let e : h - k ≡ suc (h - (k + 1)) = omega arith in ap (λ (n : ℕ). climb_cost w k n (start / 2 ^ k) c) e

  pub owes-joins : (l r c' : List ℕ) → step (worked_out w k (sibling_position (start / 2 ^ k))) (odd (start / 2 ^ k)) c ≡ joins l r → c' ≡ sha256d (l ++ r)
      → owes w h start k c ≡ cost_of w k (sibling_position (start / 2 ^ k)) + 1 + owes w h start (k + 1) c'
  unfolding owes
  owes-joins l r c' e g =
      let s : suc k ≡ k + 1 = omega arith in
      rw (lt-ltb (k + 1) 128 (omega arith), lt-ltb k 128 (omega arith), g)
      (one_more ∙ climb_joins_lem w k (h - (k + 1)) (start / 2 ^ k) c l r e ∙ (ap (λ (m : ℕ). cost_of w k (sibling_position (start / 2 ^ k)) + 1 + climb_cost w m (h - (k + 1)) (start / 2 ^ k / 2) (sha256d (l ++ r))) s
      ∙ ap (λ (j : ℕ). cost_of w k (sibling_position (start / 2 ^ k)) + 1 + climb_cost w (k + 1) (h - (k + 1)) j (sha256d (l ++ r))) (half_above start k)))

  pub owes-fails : (number : ℕ) → step (worked_out w k (sibling_position (start / 2 ^ k))) (odd (start / 2 ^ k)) c ≡ fails number
      → owes w h start k c ≡ cost_of w k (sibling_position (start / 2 ^ k)) + owes w h start (64 * number + k) c
  unfolding owes
  owes-fails number e =
      let n : (14 ≤ number) × (number ≤ 15) = fails-number (worked_out w k (sibling_position (start / 2 ^ k))) (odd (start / 2 ^ k)) c number e in
      rw (le-ltb (64 * number + k) 128 (omega arith), lt-ltb k 128 (omega arith)) (one_more ∙ climb_fails w k (h - (k + 1)) (start / 2 ^ k) c number e ∙ omega arith)

pub owes-end : (w : Siblings) (h start state : ℕ) (c : List ℕ) → h ≤ state → owes w h start state c ≡ 0
unfolding owes climb_cost
owes-end w h start state c b = go (ltb state 128)
  where
    none : climb_cost w state (h - state) (start / 2 ^ state) c ≡ 0
    none = let e : h - state ≡ 0 = omega arith in ap (λ (n : ℕ). climb_cost w state n (start / 2 ^ state) c) e

    go : (t : Bool) → pick t (climb_cost w state (h - state) (start / 2 ^ state) c) 0 ≡ 0
    go true = none
    go false = refl

pub owes-start : (w : Siblings) (h start : ℕ) (c : List ℕ) → owes w h start 0 c ≡ climb_cost w 0 h start c
unfolding owes
owes-start w h start c = let e : start / 2 ^ 0 ≡ start = div-one start in rw (sub-zero, e)

-- ---- rows that went on

module _ (w : Siblings) (layer : ℕ) (starts : List ℕ) where
  pub spent-none : (s h c : List ℕ) → Spent w layer starts s h c s h c
  spent-none s h c = record { total = λ n i b l. refl; kept = refl }

  pub spent_on : (s h c s' h' c' s'' h'' c'' : List ℕ) → Spent w layer starts s h c s' h' c' → Spent w layer starts s' h' c' s'' h'' c'' → Spent w layer starts s h c s'' h'' c''
  spent_on s h c s' h' c' s'' h'' c'' f g =
      record { total = λ n i b l. g.total n i b (subst (λ (m : ℕ). i < m) (sym f.kept) l) ∙ f.total n i b l; kept = g.kept ∙ f.kept }

pub spent-up : (w : Siblings) (layer above : ℕ) (starts s h c s' h' c' : List ℕ) → layer ≤ above → Spent w layer starts s h c s' h' c' → Spent w above starts s h c s' h' c'
spent-up w layer above starts s h c s' h' c' b f = record { total = λ n i l. f.total n i (le_trans b l); kept = f.kept }

-- ---- a row one layer on

module _ (w : Siblings) (starts states hashes costs : List ℕ) (row k n : ℕ) (made : Answer (List ℕ) Refusal) (few : k < 64) (here : get_or states row 0 ≡ k) (inside : row < length states) (room : 32 * row + 32 ≤ length hashes)
    (told : Makes made (step (worked_out w k (sibling_position (get_or starts row 0 / 2 ^ k))) (odd (get_or starts row 0 / 2 ^ k)) (hash_at hashes (32 * row))))
    (cost : n ≡ cost_of w k (sibling_position (get_or starts row 0 / 2 ^ k))) where
  abbrev the_step : Step
  the_step = step (worked_out w k (sibling_position (get_or starts row 0 / 2 ^ k))) (odd (get_or starts row 0 / 2 ^ k)) (hash_at hashes (32 * row))

  abbrev states₂ : List ℕ
  states₂ = states_after states row k made

  abbrev hashes₂ : List ℕ
  hashes₂ = hashes_after states hashes row k made

  abbrev costs₂ : List ℕ
  costs₂ = costs_after states costs row k made n

  costs_are : (q : Answer (List ℕ) Refusal) → made ≡ q → costs₂ ≡ set costs row ((get_or costs row 0 + paid q n) % U64)
  unfolding costs_after
  costs_are q e = let z = eq-eqb (get_or states row 0) k here in rw (z, e)

  pub advance-spends : Spent w (k + 1) starts states hashes costs states₂ hashes₂ costs₂
  unfolding owes_at paid
  advance-spends = go made refl
    where
      make : (q : Answer (List ℕ) Refusal) → made ≡ q → ((h : ℕ) → k + 1 ≤ h → row < length costs → (get_or costs₂ row 0 + owes_at w h starts states₂ hashes₂ row) % U64 ≡ (get_or costs row 0 + owes_at w h starts states hashes row) % U64)
          → ((i : ℕ) → (i ≡ row → ⊥) → get_or states₂ i 0 ≡ get_or states i 0) → ((i : ℕ) → (i ≡ row → ⊥) → hash_at hashes₂ (32 * i) ≡ hash_at hashes (32 * i)) → ((i : ℕ) → (i ≡ row → ⊥) → get_or costs₂ i 0 ≡ get_or costs i 0)
          → Spent w (k + 1) starts states hashes costs states₂ hashes₂ costs₂
      make q g f u v x = record { total = λ h i b l. at h i b l (eqb i row) refl; kept = ap length (costs_are q g) ∙ length-set costs row ((get_or costs row 0 + paid q n) % U64) }
        where
          at : (h i : ℕ) → k + 1 ≤ h → i < length costs → (y : Bool) → eqb i row ≡ y → (get_or costs₂ i 0 + owes_at w h starts states₂ hashes₂ i) % U64 ≡ (get_or costs i 0 + owes_at w h starts states hashes i) % U64
          at h i b l true e = let z = eqb-true i row e in rw z (f h b (subst (λ (m : ℕ). m < length costs) z l))
          at h i b l false e = let z = eqb-false i row e in rw (u i z, v i z, x i z)

      other : (q : Answer (List ℕ) Refusal) → made ≡ q → (i : ℕ) → (i ≡ row → ⊥) → get_or costs₂ i 0 ≡ get_or costs i 0
      other q g i ne = ap (λ (l : List ℕ). get_or l i 0) (costs_are q g) ∙ get_or-set_other costs row i ((get_or costs row 0 + paid q n) % U64) 0 ne

      go : (q : Answer (List ℕ) Refusal) → made ≡ q → Spent w (k + 1) starts states hashes costs states₂ hashes₂ costs₂
      go (Ok parent) g =
          let v : Makes (Ok parent) the_step = subst (λ (z : Answer (List ℕ) Refusal). Makes z the_step) g told in
          let whole : length parent ≡ 32 = ap length v.3 ∙ sha256d-length (v.0 ++ v.1) in
          let e : (states₂ ≡ set states row (k + 1)) × (hashes₂ ≡ set_hash hashes row parent) = advance-joins states hashes row k made here parent g in
          let p = set-inside hashes row parent (omega arith) in
          let s : get_or states₂ row 0 ≡ k + 1 = ap (λ (l : List ℕ). get_or l row 0) e.0 ∙ get_or-set_same states row (k + 1) 0 inside in
          let c : hash_at hashes₂ (32 * row) ≡ parent = ap (λ (l : List ℕ). hash_at l (32 * row)) (e.1 ∙ p) ∙ stored_here hashes parent row whole room in
          let m : row < length costs → get_or costs₂ row 0 ≡ (get_or costs row 0 + (n + 1)) % U64 = (λ l. ap (λ (l : List ℕ). get_or l row 0) (costs_are (Ok parent) g) ∙ get_or-set_same costs row ((get_or costs row 0 + (n + 1)) % U64) 0 l) in
          make (Ok parent) g
          (λ h b l. rw (s, c, here, m l) (let o = owes-joins w h (get_or starts row 0) k (hash_at hashes (32 * row)) (omega arith) few v.0 v.1 parent v.2 v.3 in omega arith))
          (λ i ne. ap (λ (l : List ℕ). get_or l i 0) e.0 ∙ get_or-set_other states row i (k + 1) 0 ne)
          (λ i ne. ap (λ (l : List ℕ). hash_at l (32 * i)) (e.1 ∙ p) ∙ stored_other hashes parent row whole room i ne)
          (other (Ok parent) g)
      go (Err refusal) g =
          let f : the_step ≡ fails (refusal_number refusal) = subst (λ (z : Answer (List ℕ) Refusal). Makes z the_step) g told in
          let number : ℕ = refusal_number refusal in
          let e : (states₂ ≡ set states row (64 * number + k)) × (hashes₂ ≡ hashes) = advance-fails states hashes row k made here refusal g in
          let s : get_or states₂ row 0 ≡ 64 * number + k = ap (λ (l : List ℕ). get_or l row 0) e.0 ∙ get_or-set_same states row (64 * number + k) 0 inside in
          let m : row < length costs → get_or costs₂ row 0 ≡ (get_or costs row 0 + n) % U64 = (λ l. ap (λ (l : List ℕ). get_or l row 0) (costs_are (Err refusal) g) ∙ get_or-set_same costs row ((get_or costs row 0 + n) % U64) 0 l) in
          make (Err refusal) g
          (λ h b l. rw (s, e.1, here, m l) (let o = owes-fails w h (get_or starts row 0) k (hash_at hashes (32 * row)) (omega arith) few number f in omega arith))
          (λ i ne. ap (λ (l : List ℕ). get_or l i 0) e.0 ∙ get_or-set_other states row i (64 * number + k) 0 ne)
          (λ i ne. ap (λ (l : List ℕ). hash_at l (32 * i)) e.1)
          (other (Err refusal) g)

-- ---- all rows climbed

pub cost_fits : (w : Siblings) (h start : ℕ) (c : List ℕ) → h ≤ 64 → climb_cost w 0 h start c < U64
cost_fits w h start c b =
    let a = climb_low w 0 h start c in
    let e : 0 + h ≡ h = omega arith in
    let f = ap (λ (n : ℕ). 2 ^ n) e in
    let p : 2 ^ h ≤ 2 ^ 64 = pow_mono b in
    omega arith

pub start_fits : (w : Siblings) (h : ℕ) (id : List ℕ) (x : Option ℕ) → h ≤ 64 → start_cost w h id x < U64
unfolding start_cost
start_fits w h id (Some i) b = cost_fits w h i id b
start_fits w h id None b = omega arith

pub all_settled : (w : Siblings) (h : ℕ) (starts order s x c s' x' c' : List ℕ) → Placed starts order (length starts) → length order ≡ length starts → Spent w h starts s x c s' x' c' → Reached order s' h 0 (length order)
    → Settled w h starts s x c c'
unfolding Settled Reached owes_at
all_settled w h starts order s x c s' x' c' placed len spent reached i l m =
    let o = placed.onto i l in
    let r : h ≤ get_or s' (get_or order o.0 0) 0 = reached o.0 (omega arith) (let b = o.1 in omega arith) in
    let r' : h ≤ get_or s' i 0 = subst (λ (n : ℕ). h ≤ get_or s' n 0) o.2 r in
    let z = owes-end w h (get_or starts i 0) (get_or s' i 0) (hash_at x' (32 * i)) r' in
    let y : get_or c' i 0 ≡ get_or c' i 0 + owes w h (get_or starts i 0) (get_or s' i 0) (hash_at x' (32 * i)) = omega arith in
    ap (λ (n : ℕ). n % U64) y ∙ spent.total h i (le_refl h) m

-- ---- what a node hands up

-- what is written costs none
pub cost_here : (w : Siblings) (k q : ℕ) → is_written (w k q) ≡ true → cost_of w k q ≡ 0
unfolding is_written
cost_here w k q e = written_none w k q (λ z. let y = ap is_written z in let x : ◌≡◌ {A = ℕ} 0 1 = cc in omega arith)

-- at level 0 nothing is joined
pub cost_bottom : (w : Siblings) (k q : ℕ) → k ≡ 0 → cost_of w k q ≡ 0
unfolding cost_of join_cost joins_by
cost_bottom w k q e = rw e (go (w 0 q))
  where
    go : (x : Sibling) → joins_by x 0 ≡ 0
    go (value p) = refl
    go copied = refl
    go absent = refl

-- where nothing is written: from the children as they are handed up; the right one counts only if there is a join
pub cost_joined : (w : Siblings) (k q : ℕ) → (k ≡ 0 → ⊥) → k ≤ 64 → is_written (w k q) ≡ false → (l r : ℕ) → l ≡ cost_of w (k - 1) (2 * q) → (has_value (join_of w k q) ≡ true → r ≡ cost_of w (k - 1) (2 * q + 1))
    → joined_cost (has_value (join_of w k q)) l r ≡ cost_of w k q
unfolding joined_cost is_written joins_by cost_of
cost_joined w k q ne few f l r el er = go (has_value (join_of w k q)) refl ∙ sym (cost_up w k q ne) ∙ sym (by_absent (w k q) f)
  where
    by_absent : (x : Sibling) → is_written x ≡ false → joins_by x (join_cost w k q) ≡ join_cost w k q
    by_absent (value p) e = let z : ◌≡◌ {A = ℕ} 0 1 = cc in absurd (omega arith)
    by_absent copied e = let z : ◌≡◌ {A = ℕ} 0 1 = cc in absurd (omega arith)
    by_absent absent e = refl

    go : (t : Bool) → has_value (join_of w k q) ≡ t → pick t ((1 + (l + r) % U64) % U64) 0 ≡ pick t (1 + cost_of w (k - 1) (2 * q) + cost_of w (k - 1) (2 * q + 1)) 0
    go true e =
        let a = cost_low w (k - 1) (2 * q) in
        let b = cost_low w (k - 1) (2 * q + 1) in
        let m : k - 1 ≤ 63 = omega arith in
        let p : 2 ^ (k - 1) ≤ 2 ^ 63 = pow_mono m in
        let x = er e in
        omega arith
    go false e = refl

-- ---- what charging a row writes

module _ (states costs : List ℕ) (row layer n : ℕ) (made : Answer (List ℕ) Refusal) where
  pub charge_stays : (get_or states row 0 ≡ layer → ⊥) → costs_after states costs row layer made n ≡ costs
  unfolding costs_after
  charge_stays ne = rw (ne_eqb (get_or states row 0) layer ne)

  pub charge-none : length costs ≤ row → costs_after states costs row layer made n ≡ costs
  unfolding costs_after
  charge-none b = go (eqb (get_or states row 0) layer)
    where
      go : (t : Bool) → pick t (set costs row ((get_or costs row 0 + paid made n) % U64)) costs ≡ costs
      go true = set_out costs row ((get_or costs row 0 + paid made n) % U64) b
      go false = refl

  module _ (here : get_or states row 0 ≡ layer) (v : ℕ) where
    pub charge-joins : (parent : List ℕ) → made ≡ Ok parent → v ≡ (get_or costs row 0 + (n + 1) % U64) % U64 → costs_after states costs row layer made n ≡ set costs row v
    unfolding costs_after paid
    charge-joins parent e f = let z : (get_or costs row 0 + (n + 1)) % U64 ≡ v = omega arith in rw (eq-eqb (get_or states row 0) layer here, e, z)

    pub charge-fails : (refusal : Refusal) → made ≡ Err refusal → v ≡ (get_or costs row 0 + n) % U64 → costs_after states costs row layer made n ≡ set costs row v
    unfolding costs_after paid
    charge-fails refusal e f = rw (eq-eqb (get_or states row 0) layer here, e, sym f)

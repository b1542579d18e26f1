-- Laws of climbs in rows: one layer more leads where the row led, and at the end a row has come there.
use Rattle.std.proofs.Common.{◌≡◌, Result as Answer, Ok, Err, ℕ, ◌+◌, ◌-◌, ◌*◌, ◌/◌, ◌%◌, ◌^◌, ◌<◌, ◌≤◌, Bool, true, false, eqb, ltb, List, ◌++◌, length, get_or, set, sym, refl, ap, ◌∙◌, subst, le_trans, le_refl, div-one, arith, get_or-set_other, get_or-set_same, shr-shr, le-ltb, lt-ltb, eq-eqb, ne_eqb, eqb-true}
use native.Mathlib.Nat.{sub-zero}
use borrow.Author.Tests.{eqb-false}
use Rattle.hash.specs.Sha256.{sha256d}
use Rattle.hash.proofs.Sha256Laws.{sha256d-length}
use Rattle.format.specs.declared.refusal.Refusal.{Refusal}
use Rattle.format.specs.Bytes.{same, set_hash, hash_at}
use Rattle.format.proofs.BytesLaws.{set-inside}
use Rattle.format.specs.Parse.{pick}
use Rattle.format.specs.Refusals.{NOT_LISTED, MISSING, TWIN, refusal_number}
use Rattle.spv.specs.Result.{carrying, at_sibling}
use Rattle.spv.specs.Climb.{Sibling, value, copied, absent, Siblings, sibling_position, odd, Step, joins, fails, joined, step, ascend, end_by, end_of}
use Rattle.spv.proofs.ClimbLaws.{turn-joins, turn-fails, turn-none}
use Rattle.spv.specs.Shapes.{step_of}
use Rattle.spv.proofs.Stored.{stored_here, stored_other}
use Rattle.spv.specs.declared.climb.Halves.{Halves}
use Rattle.climbs.specs.Row.{number_of, sibling_at, refusal_of, leads, leads_at, came, made_of, state_by, hashes_by, states_after, hashes_after, Moved}

-- ---- one row

-- the position one layer up
pub half_above : (x k : ℕ) → x / 2 ^ k / 2 ≡ x / 2 ^ (k + 1)
half_above x k = shr-shr x k 1

-- a layer fails by 14 or 15
joined-fails : (o : Bool) (c p : List ℕ) (number : ℕ) → joined o c p ≡ fails number → (14 ≤ number) × (number ≤ 15)
unfolding joined
joined-fails false c p number e = let z : ◌≡◌ {A = ℕ} 0 1 = cc in absurd (omega arith)
joined-fails true c p number e = go (same p c) e
  where
    go : (t : Bool) → pick t (fails TWIN) (joins p c) ≡ fails number → (14 ≤ number) × (number ≤ 15)
    go true e = let z : TWIN ≡ number = cc in (omega arith, omega arith)
    go false e = let z : ◌≡◌ {A = ℕ} 0 1 = cc in absurd (omega arith)

pub fails-number : (x : Sibling) (o : Bool) (c : List ℕ) (number : ℕ) → step x o c ≡ fails number → (14 ≤ number) × (number ≤ 15)
unfolding step
fails-number (value p) o c number e = joined-fails o c p number e
fails-number copied o c number e = joined-fails o c c number e
fails-number absent o c number e = let z : MISSING ≡ number = cc in (omega arith, omega arith)

number_of_lem : (number k : ℕ) → 14 ≤ number → number ≤ 15 → k < 64 → number_of (64 * number + k) ≡ number
unfolding number_of
number_of_lem number k a b c = rw (le-ltb (64 * number + k) 896 (omega arith)) (go (eqb number 14) refl)
  where
    go : (t : Bool) → eqb number 14 ≡ t → pick (ltb (64 * number + k) 960) MISSING TWIN ≡ number
    go true e = let z = eqb-true number 14 e in rw (lt-ltb (64 * number + k) 960 (omega arith)) (sym z)
    go false e = let z = eqb-false number 14 e in let y : 15 ≡ number = omega arith in rw (le-ltb (64 * number + k) 960 (omega arith)) y

-- what the state of a layer that fails says
pub refusal-at : (start number k : ℕ) → 14 ≤ number → number ≤ 15 → k < 64 → refusal_of start (64 * number + k) ≡ at_sibling number k (sibling_position (start / 2 ^ k))
unfolding refusal_of sibling_at
refusal-at start number k a b c =
    let q : number_of (64 * number + k) ≡ number = number_of_lem number k a b c in
    let m : (64 * number + k) % 64 ≡ k = omega arith in
    rw (q, m, le-ltb (64 * number + k) 896 (omega arith))

-- and of a row that is not begun
pub refusal-none : (start : ℕ) → refusal_of start (64 * NOT_LISTED) ≡ carrying NOT_LISTED 0
unfolding refusal_of number_of sibling_at
refusal-none start = refl

module _ (σ : Siblings) (h start k : ℕ) (c : List ℕ) (b : k < h) (few : k < 64) where
  pub leads-joins : (l r c' : List ℕ) → step (σ k (sibling_position (start / 2 ^ k))) (odd (start / 2 ^ k)) c ≡ joins l r → c' ≡ sha256d (l ++ r) → leads σ h start (k + 1) c' ≡ leads σ h start k c
  unfolding leads end_by
  leads-joins l r c' e g =
      rw (lt-ltb (k + 1) 128 (omega arith), lt-ltb k 128 (omega arith), g)
      (sym (ap (end_of c) (turn-joins σ k k h (start / 2 ^ k) c b l r e)
      ∙ ap (λ (j : ℕ). end_of (sha256d (l ++ r)) (ascend σ (k + 1) (h - (k + 1)) j (sha256d (l ++ r)))) (half_above start k)))

  pub leads-fails : (number : ℕ) → step (σ k (sibling_position (start / 2 ^ k))) (odd (start / 2 ^ k)) c ≡ fails number → leads σ h start (64 * number + k) c ≡ leads σ h start k c
  unfolding leads end_by
  leads-fails number e =
      let n : (14 ≤ number) × (number ≤ 15) = fails-number (σ k (sibling_position (start / 2 ^ k))) (odd (start / 2 ^ k)) c number e in
      rw (le-ltb (64 * number + k) 128 (omega arith), lt-ltb k 128 (omega arith), refusal-at start number k n.0 n.1 few)
      (sym (ap (end_of c) (turn-fails σ k k h (start / 2 ^ k) c b number e)))

pub leads-end : (σ : Siblings) (h start state : ℕ) (c : List ℕ) → h ≤ state → leads σ h start state c ≡ came start state c
unfolding leads came end_by
leads-end σ h start state c b = rw (turn-none σ state state h (start / 2 ^ state) c b)

pub leads-start : (σ : Siblings) (h start : ℕ) (c : List ℕ) → leads σ h start 0 c ≡ end_of c (ascend σ 0 h start c)
unfolding leads
leads-start σ h start c = let e : start / 2 ^ 0 ≡ start = div-one start in rw (sub-zero, e)

-- ---- rows that went on

module _ (σ : Siblings) (layer : ℕ) (starts : List ℕ) where
  pub moved_none : (states hashes : List ℕ) → Moved σ layer starts states hashes states hashes
  moved_none states hashes = record { leads = λ h i b. refl; grows = λ i. le_refl (get_or states i 0) }

  pub moved_on : (a x b y c z : List ℕ) → Moved σ layer starts a x b y → Moved σ layer starts b y c z → Moved σ layer starts a x c z
  moved_on a x b y c z f g = record { leads = λ h i l. g.leads h i l ∙ f.leads h i l; grows = λ i. le_trans (f.grows i) (g.grows i) }

pub moved_up : (σ : Siblings) (layer above : ℕ) (starts a x b y : List ℕ) → layer ≤ above → Moved σ layer starts a x b y → Moved σ above starts a x b y
moved_up σ layer above starts a x b y l f = record { leads = λ h i m. f.leads h i (le_trans l m); grows = f.grows }

-- a row that is changed leads where it led, and grows; the others are as they were
module _ (σ : Siblings) (layer : ℕ) (starts states hashes states' hashes' : List ℕ) (row : ℕ) where
  pub moved-one : ((h : ℕ) → layer ≤ h → leads_at σ h starts states' hashes' row ≡ leads_at σ h starts states hashes row) → get_or states row 0 ≤ get_or states' row 0
      → ((i : ℕ) → (i ≡ row → ⊥) → get_or states' i 0 ≡ get_or states i 0) → ((i : ℕ) → (i ≡ row → ⊥) → hash_at hashes' (32 * i) ≡ hash_at hashes (32 * i))
      → Moved σ layer starts states hashes states' hashes'
  unfolding leads_at
  moved-one f g u v = record { leads = λ h i b. at h i b (eqb i row) refl; grows = λ i. up i (eqb i row) refl }
    where
      at : (h i : ℕ) → layer ≤ h → (t : Bool) → eqb i row ≡ t → leads_at σ h starts states' hashes' i ≡ leads_at σ h starts states hashes i
      at h i b true e = let z = eqb-true i row e in rw z (f h b)
      at h i b false e = let z = eqb-false i row e in rw (u i z, v i z)

      up : (i : ℕ) → (t : Bool) → eqb i row ≡ t → get_or states i 0 ≤ get_or states' i 0
      up i true e = let z = eqb-true i row e in rw z g
      up i false e = let z = eqb-false i row e in let y = u i z in omega arith

-- ---- a row one layer on

-- what a layer made is what a step says
abbrev pub Makes : Answer (List ℕ) Refusal → Step → Type 0
Makes (Ok parent) st = (l : List ℕ) × (r : List ℕ) × (st ≡ joins l r) × (parent ≡ sha256d (l ++ r))
Makes (Err refusal) st = st ≡ fails (refusal_number refusal)

pub makes : (turned : Answer Halves Refusal) (st : Step) → step_of turned ≡ st → Makes (made_of turned) st
makes (Ok h) st e = (h.left, h.right, sym e, refl)
makes (Err refusal) st e = sym e

pub makes_by : (made : Answer (List ℕ) Refusal) (turned : Answer Halves Refusal) (st : Step) → made ≡ made_of turned → step_of turned ≡ st → Makes made st
makes_by made turned st e f = rw e (makes turned st f)

module _ (states hashes : List ℕ) (row k : ℕ) (made : Answer (List ℕ) Refusal) where
  abbrev states₁ : List ℕ
  states₁ = states_after states row k made

  abbrev hashes₁ : List ℕ
  hashes₁ = hashes_after states hashes row k made

  pub advance_stays : (get_or states row 0 ≡ k → ⊥) → (states₁ ≡ states) × (hashes₁ ≡ hashes)
  unfolding states_after hashes_after
  advance_stays ne = let e = ne_eqb (get_or states row 0) k ne in (rw e, rw e)

  module _ (here : get_or states row 0 ≡ k) where
    pub advance-joins : (parent : List ℕ) → made ≡ Ok parent → (states₁ ≡ set states row (k + 1)) × (hashes₁ ≡ set_hash hashes row parent)
    unfolding states_after hashes_after state_by hashes_by
    advance-joins parent e = let z = eq-eqb (get_or states row 0) k here in (rw (z, e), rw (z, e))

    pub advance-fails : (refusal : Refusal) → made ≡ Err refusal → (states₁ ≡ set states row (64 * refusal_number refusal + k)) × (hashes₁ ≡ hashes)
    unfolding states_after hashes_after state_by hashes_by
    advance-fails refusal e = let z = eq-eqb (get_or states row 0) k here in (rw (z, e), rw (z, e))

-- what was made is what the row makes beside its sibling: it leads where it led
module _ (σ : Siblings) (starts states hashes : List ℕ) (row k : ℕ) (made : Answer (List ℕ) Refusal) (few : k < 64) (here : get_or states row 0 ≡ k) (inside : row < length states) (room : 32 * row + 32 ≤ length hashes)
    (told : Makes made (step (σ k (sibling_position (get_or starts row 0 / 2 ^ k))) (odd (get_or starts row 0 / 2 ^ k)) (hash_at hashes (32 * row)))) where
  abbrev the_step : Step
  the_step = step (σ k (sibling_position (get_or starts row 0 / 2 ^ k))) (odd (get_or starts row 0 / 2 ^ k)) (hash_at hashes (32 * row))

  abbrev states₂ : List ℕ
  states₂ = states_after states row k made

  abbrev hashes₂ : List ℕ
  hashes₂ = hashes_after states hashes row k made

  pub advance_moves : Moved σ (k + 1) starts states hashes states₂ hashes₂ × (k < get_or states₂ row 0)
  unfolding leads_at
  advance_moves = go made refl
    where
      go : (q : Answer (List ℕ) Refusal) → made ≡ q → Moved σ (k + 1) starts states hashes states₂ hashes₂ × (k < get_or states₂ row 0)
      go (Ok parent) g =
          let v : Makes (Ok parent) the_step = subst (λ (z : Answer (List ℕ) Refusal). Makes z the_step) g told in
          let whole : length parent ≡ 32 = ap length v.3 ∙ sha256d-length (v.0 ++ v.1) in
          let e : (states₂ ≡ set states row (k + 1)) × (hashes₂ ≡ set_hash hashes row parent) = advance-joins states hashes row k made here parent g in
          let p = set-inside hashes row parent (omega arith) in
          let s : get_or states₂ row 0 ≡ k + 1 = ap (λ (l : List ℕ). get_or l row 0) e.0 ∙ get_or-set_same states row (k + 1) 0 inside in
          let c : hash_at hashes₂ (32 * row) ≡ parent = ap (λ (l : List ℕ). hash_at l (32 * row)) (e.1 ∙ p) ∙ stored_here hashes parent row whole room in (
            moved-one σ (k + 1) starts states hashes states₂ hashes₂ row
                (λ h b. rw (s, c, here) (leads-joins σ h (get_or starts row 0) k (hash_at hashes (32 * row)) (omega arith) few v.0 v.1 parent v.2 v.3))
                (omega (arith, s, here))
                (λ i ne. ap (λ (l : List ℕ). get_or l i 0) e.0 ∙ get_or-set_other states row i (k + 1) 0 ne)
                (λ i ne. ap (λ (l : List ℕ). hash_at l (32 * i)) (e.1 ∙ p) ∙ stored_other hashes parent row whole room i ne),
            omega (arith, s),
          )
      go (Err refusal) g =
          let f : the_step ≡ fails (refusal_number refusal) = subst (λ (z : Answer (List ℕ) Refusal). Makes z the_step) g told in
          let number : ℕ = refusal_number refusal in
          let e : (states₂ ≡ set states row (64 * number + k)) × (hashes₂ ≡ hashes) = advance-fails states hashes row k made here refusal g in
          let n = fails-number (σ k (sibling_position (get_or starts row 0 / 2 ^ k))) (odd (get_or starts row 0 / 2 ^ k)) (hash_at hashes (32 * row)) number f in
          let s : get_or states₂ row 0 ≡ 64 * number + k = ap (λ (l : List ℕ). get_or l row 0) e.0 ∙ get_or-set_same states row (64 * number + k) 0 inside in (
            moved-one σ (k + 1) starts states hashes states₂ hashes₂ row
                (λ h b. rw (s, e.1, here) (leads-fails σ h (get_or starts row 0) k (hash_at hashes (32 * row)) (omega arith) few number f))
                (omega (arith, s, here))
                (λ i ne. ap (λ (l : List ℕ). get_or l i 0) e.0 ∙ get_or-set_other states row i (64 * number + k) 0 ne)
                (λ i ne. ap (λ (l : List ℕ). hash_at l (32 * i)) e.1),
            omega (arith, s),
          )

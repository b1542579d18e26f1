-- What 02, Item 9, promises of transactions that pass its rule.
use Prim.Native.Nat.{ℕ, suc, ◌+◌, ◌-◌, ◌<◌}
use mathlib.Core.Path.{◌≡◌, refl, ◌∙◌}
use mathlib.Core.Bool.{Bool, true, false}
use mathlib.Core.List.{List, [], ◌∷◌, ◌++◌, append_assoc, append-nil}
use native.Mathlib.Omega.{arith}
use lib.ListN.{length, get_or, take, length-take}
use lib.Seq.{get_or-take}
use Rattle.format.specs.Parse.{pick}
use Rattle.spv.proofs.TestLaws.{clash, and_both}
use Rattle.bundle.specs.Amounts.{AmountRuling}
use Rattle.bundle.specs.Amounts.{Outpoint, Payment, total, outputs_of, spent, fresh, spends, worths, passes, amounts, anchored_total, unspent_total, lefts}
use Rattle.bundle.proofs.AmountLaws.{no_outpoint, spends-anchored, spends-unanchored, fresh-told, exist-told, outputs_at_lem, told-spent, fresh_append, worths_append, worths-found, amounts-told}
use Rattle.bundle.proofs.Balance.{unanchored_total, grand_parts, unspent-all, unspent-many}
use Rattle.bundle.specs.Payments.{no_payment, Different}

-- ---- place by place: whatever the rule

module _ (stands : List Payment → Payment → AmountRuling) where
  abbrev pub AllPass : List Payment → List Payment → Type 0
  AllPass earlier l = (k : ℕ) → k < length l → stands (earlier ++ take k l) (get_or l k no_payment) ≡ passes

  pub head_pass : (earlier : List Payment) (t : Payment) (l : List Payment) → AllPass earlier (t ∷ l) → stands earlier t ≡ passes
  head_pass earlier t l f = rw append-nil at (f 0 (omega arith))

  pub tail_pass : (earlier : List Payment) (t : Payment) (l : List Payment) → AllPass earlier (t ∷ l) → AllPass (earlier ++ (t ∷ [])) l
  tail_pass earlier t l f k h = rw append_assoc (f (suc k) (omega arith))

-- ---- what acceptance says of the inputs

module _ (fee : ℕ) where
  -- each is paid for: 26, 27 and 28 are not given
  abbrev pub Paid : List Payment → List Payment → Type 0
  Paid earlier l = AllPass (amounts fee) earlier l

  pub all-fresh : (earlier l : List Payment) → Paid earlier l → fresh (spends earlier) (spends l) ≡ true
  unfolding spends
  all-fresh earlier [] f = unfold fresh in refl
  all-fresh earlier (t ∷ l) f = go t.anchored refl (all-fresh (earlier ++ (t ∷ [])) l (tail_pass (amounts fee) earlier t l f))
    where
      go : (b : Bool) → t.anchored ≡ b → fresh (spends (earlier ++ (t ∷ []))) (spends l) ≡ true → fresh (spends earlier) (pick b (spends l) (t.inputs ++ spends l)) ≡ true
      go true u h = rw (spends-anchored earlier t u) at h
      go false u h =
          let w = amounts-told fee earlier t (head_pass (amounts fee) earlier t l f) u in
          fresh_append (spends earlier) t.inputs (spends l)
          ∙ and_both (fresh (spends earlier) t.inputs) (fresh (spends earlier ++ t.inputs) (spends l)) w.new (rw (spends-unanchored earlier t u) at h)

  -- the k-th, if it is not anchored, leaves left k: inputs = outputs + left k
  abbrev pub Leaves : List Payment → List Payment → (ℕ → ℕ) → Type 0
  Leaves earlier l left = (k : ℕ) → k < length l → (get_or l k no_payment).anchored ≡ false
      → worths (earlier ++ take k l) (get_or l k no_payment).inputs ≡ total (get_or l k no_payment).outputs + left k

  -- all inputs of unanchored transactions are worth their outputs and what they leave
  spent-worths : (earlier l : List Payment) (left : ℕ → ℕ) → Paid earlier l → Leaves earlier l left → worths (earlier ++ l) (spends l) ≡ unanchored_total l + lefts left l
  unfolding spends unanchored_total lefts
  spent-worths earlier [] left f g = unfold worths in refl
  spent-worths earlier (t ∷ l) left f g =
      go t.anchored refl
      (rw append_assoc at (spent-worths (earlier ++ (t ∷ [])) l (λ k. left (suc k)) (tail_pass (amounts fee) earlier t l f) (λ k h u. rw append_assoc (g (suc k) (omega arith) u))))
    where
      go : (b : Bool) → t.anchored ≡ b → worths (earlier ++ (t ∷ l)) (spends l) ≡ unanchored_total l + lefts (λ k. left (suc k)) l
          → worths (earlier ++ (t ∷ l)) (pick b (spends l) (t.inputs ++ spends l)) ≡ (pick b 0 (total t.outputs) + unanchored_total l) + (pick b 0 (left 0) + lefts (λ k. left (suc k)) l)
      go true u h = omega arith
      go false u h =
          let w = amounts-told fee earlier t (head_pass (amounts fee) earlier t l f) u in
          let a = worths_append (earlier ++ (t ∷ l)) t.inputs (spends l) in
          let b = worths-found earlier (t ∷ l) t.inputs w.there in
          let c : worths earlier t.inputs ≡ total t.outputs + left 0 = rw append-nil at (g 0 (omega arith) u) in
          omega arith

  -- ---- the promises, of a bundle whose ids differ (19) and in which each is paid for

  module _ (l : List Payment) (different : Different l) (paid : Paid [] l) where
    -- "the outputs of anchored transactions total the outputs that no unanchored transaction spends plus the differences left by unanchored ones"
    pub balance : (left : ℕ → ℕ) → Leaves [] l left → anchored_total l ≡ unspent_total l + lefts left l
    unfolding unspent_total spends
    balance left g =
        let a = unspent-many l different [] (spends l) (all-fresh [] l paid) in
        let b = spent-worths [] l left paid g in
        omega (arith, unspent-all l, grand_parts l)

    -- that difference, by 28 without loss, and more than the fee
    pub difference : ℕ → ℕ
    difference k = worths (take k l) (get_or l k no_payment).inputs - total (get_or l k no_payment).outputs

    pub differences_leave : Leaves [] l difference
    unfolding difference
    differences_leave k h u = let w = amounts-told fee (take k l) (get_or l k no_payment) (paid k h) u in omega (arith, w.more)

    pub difference_more : (k : ℕ) → k < length l → (get_or l k no_payment).anchored ≡ false → fee < difference k
    unfolding difference
    difference_more k h u = let w = amounts-told fee (take k l) (get_or l k no_payment) (paid k h) u in omega (arith, w.more)

    pub difference_balance : anchored_total l ≡ unspent_total l + lefts difference l
    difference_balance = balance difference differences_leave

    -- no output is spent twice
    pub spent-once : (j k : ℕ) → j < k → k < length (spends l) → get_or (spends l) j no_outpoint ≡ get_or (spends l) k no_outpoint → ⊥
    spent-once j k a b e =
        let t : spent (get_or (spends l) k no_outpoint) (take k (spends l)) ≡ true = told-spent (get_or (spends l) k no_outpoint) (take k (spends l)) j (omega (arith, a, b, length-take k (spends l))) (get_or-take k (spends l) j no_outpoint a ∙ e) in
        clash (spent (get_or (spends l) k no_outpoint) (take k (spends l))) t (fresh-told [] (spends l) fresh-spends k b)
      where
        fresh-spends : fresh [] (spends l) ≡ true
        fresh-spends = unfold spends in all-fresh [] l paid

    -- every spent output exists in an earlier transaction
    pub spent-earlier : (k m : ℕ) → k < length l → (get_or l k no_payment).anchored ≡ false → m < length (get_or l k no_payment).inputs
        → (j : ℕ) × (j < k) × ((get_or l j no_payment).id ≡ (get_or (get_or l k no_payment).inputs m no_outpoint).parent) × ((get_or (get_or l k no_payment).inputs m no_outpoint).output < length (get_or l j no_payment).outputs)
    spent-earlier k m h u low =
        let w = amounts-told fee (take k l) (get_or l k no_payment) (paid k h) u in
        let x = exist-told (take k l) (get_or l k no_payment).inputs w.there m low in
        go (get_or (get_or l k no_payment).inputs m no_outpoint) x (outputs_at_lem (take k l) (get_or (get_or l k no_payment).inputs m no_outpoint).parent (get_or (get_or l k no_payment).inputs m no_outpoint).output x)
      where
        go : (i : Outpoint) → i.output < length (outputs_of (take k l) i.parent)
            → (j : ℕ) × (j < length (take k l)) × ((get_or (take k l) j no_payment).id ≡ i.parent) × (outputs_of (take k l) i.parent ≡ (get_or (take k l) j no_payment).outputs)
            → (j : ℕ) × (j < k) × ((get_or l j no_payment).id ≡ i.parent) × (i.output < length (get_or l j no_payment).outputs)
        go i x (j, a, p, q) =
            let b : j < k = omega (arith, a, length-take k l) in
            let g = get_or-take k l j no_payment b in
            (j, b, rw g at p, rw (q, g) at x)

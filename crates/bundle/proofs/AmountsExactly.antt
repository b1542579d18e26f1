-- Item 9's rule as 02 says it, transaction by transaction and input by input, and that 26, 27 and 28 are not given exactly when it holds.
use Prim.Native.Nat.{ℕ, zero, suc, ◌+◌, ◌<◌}
use mathlib.Core.Path.{◌≡◌, refl, sym, ap, ◌∙◌}
use mathlib.Core.Bool.{Bool, true, false, not}
use mathlib.Core.List.{List, [], ◌∷◌, ◌++◌, append_assoc, append-nil}
use mathlib.Core.Logic.{◌⊎◌, inl, inr, ◌↔◌}
use native.Mathlib.Omega.{arith}
use lib.Dec.{ltb}
use lib.ListN.{length, get_or, take, length-take}
use lib.Seq.{get_or-take}
use borrow.Author.Tests.{lt-ltb}
use Rattle.format.specs.Parse.{pick}
use Rattle.spv.proofs.TestLaws.{clash, and_both, or_told, or_left, or_right, else_false}
use Rattle.format.specs.Bytes.{same}
use Rattle.format.proofs.BytesLaws.{same_eq, same_refl}
use Rattle.bundle.specs.Amounts.{Outpoint, Payment, total, outputs_of, exist, spent, fresh, spends, worths, passes, amounts, funded}
use Rattle.bundle.proofs.AmountLaws.{no_outpoint, spent_append, spent-told, told-spent, fresh-told, exist-told, outputs_at_lem, Funded, amounts-told, told-funded}
use Rattle.bundle.proofs.AmountTheorems.{Paid}
use Rattle.bundle.specs.Payments.{no_payment, Different}

pub anchored-passes : (fee : ℕ) (earlier : List Payment) (t : Payment) → t.anchored ≡ true → amounts fee earlier t ≡ passes
unfolding amounts
anchored-passes fee earlier t u = ap (λ (b : Bool). pick b passes (funded fee earlier t)) u

pub unanchored-passes : (fee : ℕ) (earlier : List Payment) (t : Payment) → t.anchored ≡ false → funded fee earlier t ≡ passes → amounts fee earlier t ≡ passes
unfolding amounts
unanchored-passes fee earlier t u e = ap (λ (b : Bool). pick b passes (funded fee earlier t)) u ∙ e

-- ---- the other way round

pub told_fresh : (before inputs : List Outpoint) → ((k : ℕ) → k < length inputs → spent (get_or inputs k no_outpoint) (before ++ take k inputs) ≡ false) → fresh before inputs ≡ true
unfolding fresh
told_fresh before [] f = refl
told_fresh before (i ∷ l) f =
    and_both (not (spent i before)) (fresh (before ++ (i ∷ [])) l) (ap not (rw append-nil at (f 0 (omega arith))))
    (told_fresh (before ++ (i ∷ [])) l (λ k h. rw append_assoc (f (suc k) (omega arith))))

pub told-exist : (earlier : List Payment) (inputs : List Outpoint)
    → ((m : ℕ) → m < length inputs → (get_or inputs m no_outpoint).output < length (outputs_of earlier (get_or inputs m no_outpoint).parent)) → exist earlier inputs ≡ true
unfolding exist
told-exist earlier [] f = refl
told-exist earlier (i ∷ l) f =
    and_both (ltb i.output (length (outputs_of earlier i.parent))) (exist earlier l) (lt-ltb i.output (length (outputs_of earlier i.parent)) (f 0 (omega arith))) (told-exist earlier l (λ m h. f (suc m) (omega arith)))

-- where ids differ, the outputs of an id are those of the one transaction that has it
pub outputs_unique : (l : List Payment) → Different l → (j : ℕ) → j < length l → outputs_of l (get_or l j no_payment).id ≡ (get_or l j no_payment).outputs
unfolding outputs_of
outputs_unique [] d j h = absurd (omega arith)
outputs_unique (t ∷ l) d zero h = rw (same_refl t.id)
outputs_unique (t ∷ l) d (suc j) h = go (same t.id (get_or l j no_payment).id) refl (outputs_unique l (λ i k a b e. d (suc i) (suc k) (omega arith) (omega arith) e) j (omega arith))
  where
    go : (b : Bool) → same t.id (get_or l j no_payment).id ≡ b → outputs_of l (get_or l j no_payment).id ≡ (get_or l j no_payment).outputs → pick b t.outputs (outputs_of l (get_or l j no_payment).id) ≡ (get_or l j no_payment).outputs
    go true e f = absurd (d 0 (suc j) (omega arith) (omega arith) (same_eq t.id (get_or l j no_payment).id e))
    go false e f = f

-- ---- what a list of transactions spends, by transaction and input

pub told-spends : (l : List Payment) (i q : ℕ) → i < length l → (get_or l i no_payment).anchored ≡ false → q < length (get_or l i no_payment).inputs → spent (get_or (get_or l i no_payment).inputs q no_outpoint) (spends l) ≡ true
unfolding spends
told-spends [] i q h u low = absurd (omega arith)
told-spends (t ∷ l) zero q h u low =
    rw u (spent_append (get_or t.inputs q no_outpoint) t.inputs (spends l)
    ∙ or_left (spent (get_or t.inputs q no_outpoint) t.inputs) (spent (get_or t.inputs q no_outpoint) (spends l)) (told-spent (get_or t.inputs q no_outpoint) t.inputs q low refl))
told-spends (t ∷ l) (suc i) q h u low = go t.anchored (get_or (get_or l i no_payment).inputs q no_outpoint) (told-spends l i q (omega arith) u low)
  where
    go : (b : Bool) (x : Outpoint) → spent x (spends l) ≡ true → spent x (pick b (spends l) (t.inputs ++ spends l)) ≡ true
    go true x e = e
    go false x e = spent_append x t.inputs (spends l) ∙ or_right (spent x t.inputs) (spent x (spends l)) e

abbrev SpentAt : List Payment → Outpoint → Type 0
SpentAt l x = (i : ℕ) × (q : ℕ) × (i < length l) × ((get_or l i no_payment).anchored ≡ false) × (q < length (get_or l i no_payment).inputs) × (get_or (get_or l i no_payment).inputs q no_outpoint ≡ x)

pub spends-told : (l : List Payment) (x : Outpoint) → spent x (spends l) ≡ true → SpentAt l x
unfolding spends
spends-told [] x e = let w = spent-told x [] e in absurd (omega (arith, w.1))
spends-told (t ∷ l) x e = go t.anchored refl e (spends-told l x)
  where
    later : SpentAt l x → SpentAt (t ∷ l) x
    later (i, q, a, b, c, d) = (suc i, q, omega (arith, a), b, c, d)

    go : (b : Bool) → t.anchored ≡ b → spent x (pick b (spends l) (t.inputs ++ spends l)) ≡ true → (spent x (spends l) ≡ true → SpentAt l x) → SpentAt (t ∷ l) x
    go true u e f = later (f e)
    go false u e f = by (or_told (spent x t.inputs) (spent x (spends l)) (sym (spent_append x t.inputs (spends l)) ∙ e))
      where
        by : (spent x t.inputs ≡ true) ⊎ (spent x (spends l) ≡ true) → SpentAt (t ∷ l) x
        by (inl h) = let w = spent-told x t.inputs h in (0, w.0, omega arith, u, w.1, w.2)
        by (inr h) = later (f h)

-- ---- the rule, of the k-th transaction

module _ (fee : ℕ) (l : List Payment) where
  abbrev pub inputs_at : ℕ → List Outpoint
  inputs_at k = (get_or l k no_payment).inputs

  abbrev pub input_at : ℕ → ℕ → Outpoint
  input_at k m = get_or (inputs_at k) m no_outpoint

  -- the q-th input of the i-th stands before the m-th of the k-th
  abbrev pub Before : ℕ → ℕ → ℕ → ℕ → Type 0
  Before i q k m = (i < k) ⊎ ((i ≡ k) × (q < m))

  pub record Pays (k : ℕ) : Type 0 where
    -- "every input's output number exists in its parent"
    pub there : (m : ℕ) → m < length (inputs_at k) → (j : ℕ) × (j < k) × ((get_or l j no_payment).id ≡ (input_at k m).parent) × ((input_at k m).output < length (get_or l j no_payment).outputs)
    -- "no output is spent twice by such transactions"
    pub once : (i q m : ℕ) → (get_or l i no_payment).anchored ≡ false → q < length (inputs_at i) → m < length (inputs_at k) → Before i q k m → input_at i q ≡ input_at k m → ⊥
    -- "and inputs come to more than outputs plus a fee that the caller gives"
    pub more : total (get_or l k no_payment).outputs + fee < worths (take k l) (inputs_at k)

  module _ (k : ℕ) (low : k < length l) (unanchored : (get_or l k no_payment).anchored ≡ false) where
    firsts : Different l → Different (take k l)
    firsts different i j a b e =
        let c : j < k = omega (arith, b, length-take k l) in
        different i j a (omega arith) (ap (λ (t : Payment). t.id) (sym (get_or-take k l i no_payment (omega arith))) ∙ e ∙ ap (λ (t : Payment). t.id) (get_or-take k l j no_payment c))

    pub pays_funded : Different l → Pays k → Funded fee (take k l) (get_or l k no_payment)
    pays_funded different p = record {
      there = told-exist (take k l) (inputs_at k) (λ m h. found (input_at k m) (p.there m h));
      new = told_fresh (spends (take k l)) (inputs_at k) (λ m h. else_false (spent (input_at k m) (spends (take k l) ++ take m (inputs_at k))) (λ e. twice m h (or_told (spent (input_at k m) (spends (take k l))) (spent (input_at k m) (take m (inputs_at k))) (sym (spent_append (input_at k m) (spends (take k l)) (take m (inputs_at k))) ∙ e))));
      more = p.more;
    }
      where
        found : (x : Outpoint) → (j : ℕ) × (j < k) × ((get_or l j no_payment).id ≡ x.parent) × (x.output < length (get_or l j no_payment).outputs) → x.output < length (outputs_of (take k l) x.parent)
        found x (j, a, b, c) =
            let g = get_or-take k l j no_payment a in
            let o : outputs_of (take k l) x.parent ≡ (get_or l j no_payment).outputs = ap (outputs_of (take k l)) (sym b) ∙ (rw g at (outputs_unique (take k l) (firsts different) j (omega (arith, a, length-take k l)))) in
            rw o c

        twice : (m : ℕ) → m < length (inputs_at k) → (spent (input_at k m) (spends (take k l)) ≡ true) ⊎ (spent (input_at k m) (take m (inputs_at k)) ≡ true) → ⊥
        twice m h (inl e) = go (spends-told (take k l) (input_at k m) e)
          where
            go : SpentAt (take k l) (input_at k m) → ⊥
            go (i, q, a, b, c, d) =
                let s : i < k = omega (arith, a, length-take k l) in
                let g = get_or-take k l i no_payment s in
                p.once i q m (rw g at b) (rw g at c) h (inl s) (rw g at d)
        twice m h (inr e) = go (spent-told (input_at k m) (take m (inputs_at k)) e)
          where
            go : (q : ℕ) × (q < length (take m (inputs_at k))) × (get_or (take m (inputs_at k)) q no_outpoint ≡ input_at k m) → ⊥
            go (q, a, d) =
                let s : q < m = omega (arith, a, length-take m (inputs_at k)) in
                p.once k q m unanchored (omega (arith, a, length-take m (inputs_at k))) h (inr (refl, s)) (sym (get_or-take m (inputs_at k) q no_outpoint s) ∙ d)

    pub funded_pays : Funded fee (take k l) (get_or l k no_payment) → Pays k
    funded_pays f = record {
      there = λ m h. let x = exist-told (take k l) (inputs_at k) f.there m h in place (input_at k m) x (outputs_at_lem (take k l) (input_at k m).parent (input_at k m).output x);
      once = λ i q m u a b o e. apart i q m u a b e (fresh-told (spends (take k l)) (inputs_at k) f.new m b) o;
      more = f.more;
    }
      where
        place : (x : Outpoint) → x.output < length (outputs_of (take k l) x.parent)
            → (j : ℕ) × (j < length (take k l)) × ((get_or (take k l) j no_payment).id ≡ x.parent) × (outputs_of (take k l) x.parent ≡ (get_or (take k l) j no_payment).outputs)
            → (j : ℕ) × (j < k) × ((get_or l j no_payment).id ≡ x.parent) × (x.output < length (get_or l j no_payment).outputs)
        place x o (j, a, p, q) =
            let b : j < k = omega (arith, a, length-take k l) in
            let g = get_or-take k l j no_payment b in
            (j, b, rw g at p, rw (q, g) at o)

        early : (i q : ℕ) → i < k → (get_or l i no_payment).anchored ≡ false → q < length (inputs_at i) → spent (input_at i q) (spends (take k l)) ≡ true
        early i q s u a =
            let g = get_or-take k l i no_payment s in
            rw g at (told-spends (take k l) i q (omega (arith, s, low, length-take k l)) (rw g u) (rw g a))

        apart : (i q m : ℕ) → (get_or l i no_payment).anchored ≡ false → q < length (inputs_at i) → m < length (inputs_at k) → input_at i q ≡ input_at k m
            → spent (input_at k m) (spends (take k l) ++ take m (inputs_at k)) ≡ false → Before i q k m → ⊥
        apart i q m u a b e no_one (inl s) =
            clash (spent (input_at k m) (spends (take k l) ++ take m (inputs_at k)))
            (spent_append (input_at k m) (spends (take k l)) (take m (inputs_at k)) ∙ or_left (spent (input_at k m) (spends (take k l))) (spent (input_at k m) (take m (inputs_at k))) (rw e at (early i q s u a))) no_one
        apart i q m u a b e no_one (inr (r, s)) =
            clash (spent (input_at k m) (spends (take k l) ++ take m (inputs_at k)))
            (spent_append (input_at k m) (spends (take k l)) (take m (inputs_at k))
            ∙ or_right (spent (input_at k m) (spends (take k l))) (spent (input_at k m) (take m (inputs_at k)))
            (told-spent (input_at k m) (take m (inputs_at k)) q (omega (arith, s, b, length-take m (inputs_at k))) (get_or-take m (inputs_at k) q no_outpoint s ∙ (rw r at e)))) no_one

  -- 26, 27 and 28 are given to none exactly when each that is not anchored pays
  pub paid-exactly : Different l → Paid fee [] l ↔ ((k : ℕ) → k < length l → (get_or l k no_payment).anchored ≡ false → Pays k)
  paid-exactly d = (λ p k h u. funded_pays k h u (amounts-told fee (take k l) (get_or l k no_payment) (p k h) u), λ f k h. by k h (f k h) (get_or l k no_payment).anchored refl)
    where
      by : (k : ℕ) → k < length l → ((get_or l k no_payment).anchored ≡ false → Pays k) → (b : Bool) → (get_or l k no_payment).anchored ≡ b → amounts fee (take k l) (get_or l k no_payment) ≡ passes
      by k h f true u = anchored-passes fee (take k l) (get_or l k no_payment) u
      by k h f false u = unanchored-passes fee (take k l) (get_or l k no_payment) u (told-funded fee (take k l) (get_or l k no_payment) (pays_funded k h u d (f u)))

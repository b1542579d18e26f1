-- Laws of Item 9's definitions.
use Prim.Native.Nat.{ℕ, zero, suc, ◌+◌, ◌<◌}
use mathlib.Core.Path.{◌≡◌, refl, sym, ap, ◌∙◌}
use mathlib.Core.Bool.{Bool, true, false, not, ◌&&◌, ◌||◌}
use mathlib.Core.List.{List, [], ◌∷◌, ◌++◌, append_assoc, append-nil}
use mathlib.Core.Logic.{◌⊎◌, inl, inr}
use native.Mathlib.Omega.{arith}
use lib.Dec.{ltb, eqb}
use lib.ListN.{length, get_or, take}
use borrow.Author.Tests.{ltb-true, lt-ltb, eqb-true, eq-eqb, not-true}
use Rattle.format.specs.Parse.{pick}
use Rattle.spv.proofs.TestLaws.{clash, and_left, and_right, and_both, or_told, or_left, or_right}
use Rattle.format.specs.Bytes.{same}
use Rattle.format.proofs.BytesLaws.{same_eq, same_refl}
use Rattle.bundle.specs.Amounts.{Outpoint, Payment, total, outputs_of, exist, same_output, spent, fresh, spends, worth, worths, refuses, passes, enough, funded, amounts}
use Rattle.bundle.specs.Payments.{no_payment}

abbrev pub no_outpoint : Outpoint
no_outpoint = record { parent = []; output = 0 }

pub same-output-told : (i j : Outpoint) → same_output i j ≡ true → (i.parent ≡ j.parent) × (i.output ≡ j.output)
unfolding same_output
same-output-told i j e =
    (same_eq i.parent j.parent (and_left (same i.parent j.parent) (eqb i.output j.output) e), eqb-true i.output j.output (and_right (same i.parent j.parent) (eqb i.output j.output) e))

pub told-same-output : (i j : Outpoint) → i.parent ≡ j.parent → i.output ≡ j.output → same_output i j ≡ true
unfolding same_output
told-same-output i j p q = and_both (same i.parent j.parent) (eqb i.output j.output) (rw p (same_refl j.parent)) (eq-eqb i.output j.output q)

-- ---- spent

or_assoc : (a b c : Bool) → ((a || b) || c) ≡ (a || (b || c))
or_assoc true b c = refl
or_assoc false b c = refl

pub spent_append : (i : Outpoint) (a b : List Outpoint) → spent i (a ++ b) ≡ (spent i a || spent i b)
unfolding spent
spent_append i [] b = refl
spent_append i (j ∷ a) b = ap (λ (t : Bool). same_output j i || t) (spent_append i a b) ∙ sym (or_assoc (same_output j i) (spent i a) (spent i b))

or-false : (a : Bool) → (a || false) ≡ a
or-false true = refl
or-false false = refl

pub spent_last : (i j : Outpoint) (a : List Outpoint) → spent i (a ++ (j ∷ [])) ≡ (spent i a || same_output j i)
unfolding spent
spent_last i j a = spent_append i a (j ∷ []) ∙ ap (λ (t : Bool). spent i a || t) (or-false (same_output j i))

pub told-spent : (i : Outpoint) (l : List Outpoint) (k : ℕ) → k < length l → get_or l k no_outpoint ≡ i → spent i l ≡ true
unfolding spent
told-spent i [] k h e = absurd (omega arith)
told-spent i (j ∷ l) zero h e = or_left (same_output j i) (spent i l) (told-same-output j i (ap (λ (x : Outpoint). x.parent) e) (ap (λ (x : Outpoint). x.output) e))
told-spent i (j ∷ l) (suc k) h e = or_right (same_output j i) (spent i l) (told-spent i l k (omega arith) e)

pub spent-told : (i : Outpoint) (l : List Outpoint) → spent i l ≡ true → (k : ℕ) × (k < length l) × (get_or l k no_outpoint ≡ i)
unfolding spent
spent-told i [] e = clash false e refl
spent-told i (j ∷ l) e = go (or_told (same_output j i) (spent i l) e) (spent-told i l)
  where
    equal : (i.parent ≡ j.parent) → (i.output ≡ j.output) → j ≡ i
    equal p q = λ k. record { parent = sym p k; output = sym q k }

    go : (same_output j i ≡ true) ⊎ (spent i l ≡ true) → (spent i l ≡ true → (k : ℕ) × (k < length l) × (get_or l k no_outpoint ≡ i)) → (k : ℕ) × (k < suc (length l)) × (get_or (j ∷ l) k no_outpoint ≡ i)
    go (inl h) f = let w = same-output-told j i h in (0, omega arith, equal (sym w.0) (sym w.1))
    go (inr h) f = let w = f h in (suc w.0, omega (arith, w.1), w.2)

-- ---- fresh

and_assoc : (a b c : Bool) → ((a && b) && c) ≡ (a && (b && c))
and_assoc true b c = refl
and_assoc false b c = refl

pub fresh_append : (before a b : List Outpoint) → fresh before (a ++ b) ≡ (fresh before a && fresh (before ++ a) b)
unfolding fresh
fresh_append before [] b = rw append-nil
fresh_append before (i ∷ a) b =
    ap (λ (t : Bool). not (spent i before) && t) (fresh_append (before ++ (i ∷ [])) a b)
    ∙ ap (λ (l : List Outpoint). not (spent i before) && (fresh (before ++ (i ∷ [])) a && fresh l b)) (append_assoc before (i ∷ []) a)
    ∙ sym (and_assoc (not (spent i before)) (fresh (before ++ (i ∷ [])) a) (fresh (before ++ (i ∷ a)) b))

pub spends_append : (a b : List Payment) → spends (a ++ b) ≡ spends a ++ spends b
unfolding spends
spends_append [] b = refl
spends_append (t ∷ a) b = go t.anchored (spends_append a b)
  where
    go : (x : Bool) → spends (a ++ b) ≡ spends a ++ spends b → pick x (spends (a ++ b)) (t.inputs ++ spends (a ++ b)) ≡ pick x (spends a) (t.inputs ++ spends a) ++ spends b
    go true e = e
    go false e = ap (λ (l : List Outpoint). t.inputs ++ l) e ∙ sym (append_assoc t.inputs (spends a) (spends b))

pub spends-anchored : (a : List Payment) (t : Payment) → t.anchored ≡ true → spends (a ++ (t ∷ [])) ≡ spends a
spends-anchored a t u = spends_append a (t ∷ []) ∙ ap (λ (l : List Outpoint). spends a ++ l) one ∙ append-nil (spends a)
  where
    one : spends (t ∷ []) ≡ []
    one = unfold spends in rw u

pub spends-unanchored : (a : List Payment) (t : Payment) → t.anchored ≡ false → spends (a ++ (t ∷ [])) ≡ spends a ++ t.inputs
spends-unanchored a t u = spends_append a (t ∷ []) ∙ ap (λ (l : List Outpoint). spends a ++ l) one
  where
    one : spends (t ∷ []) ≡ t.inputs
    one = unfold spends in (rw u (append-nil t.inputs))

-- ---- what inputs are worth

pub worths_append : (l : List Payment) (a b : List Outpoint) → worths l (a ++ b) ≡ worths l a + worths l b
unfolding worths
worths_append l [] b = omega arith
worths_append l (i ∷ a) b = omega (arith, worths_append l a b)

-- a parent that has outputs is found in a longer list too
pub outputs-found : (earlier more : List Payment) (x : List ℕ) (n : ℕ) → n < length (outputs_of earlier x) → outputs_of (earlier ++ more) x ≡ outputs_of earlier x
unfolding outputs_of
outputs-found [] more x n h = absurd (omega arith)
outputs-found (t ∷ l) more x n h = go (same t.id x) h (outputs-found l more x n)
  where
    go : (b : Bool) → n < length (pick b t.outputs (outputs_of l x)) → (n < length (outputs_of l x) → outputs_of (l ++ more) x ≡ outputs_of l x)
        → pick b t.outputs (outputs_of (l ++ more) x) ≡ pick b t.outputs (outputs_of l x)
    go true h f = refl
    go false h f = f h

pub worths-found : (earlier more : List Payment) (inputs : List Outpoint) → exist earlier inputs ≡ true → worths (earlier ++ more) inputs ≡ worths earlier inputs
unfolding worths worth exist
worths-found earlier more [] e = refl
worths-found earlier more (i ∷ l) e =
    let h = ltb-true i.output (length (outputs_of earlier i.parent)) (and_left (ltb i.output (length (outputs_of earlier i.parent))) (exist earlier l) e) in
    let f = outputs-found earlier more i.parent i.output h in
    let m = worths-found earlier more l (and_right (ltb i.output (length (outputs_of earlier i.parent))) (exist earlier l) e) in
    cc

-- ---- how one transaction stands

pub record Funded (fee : ℕ) (earlier : List Payment) (t : Payment) : Type 0 where
  pub there : exist earlier t.inputs ≡ true
  pub new : fresh (spends earlier) t.inputs ≡ true
  pub more : total t.outputs + fee < worths earlier t.inputs

pub funded-told : (fee : ℕ) (earlier : List Payment) (t : Payment) → funded fee earlier t ≡ passes → Funded fee earlier t
unfolding funded enough
funded-told fee earlier t e = go (exist earlier t.inputs) refl (fresh (spends earlier) t.inputs) refl (ltb (total t.outputs + fee) (worths earlier t.inputs)) refl e
  where
    go : (a : Bool) → exist earlier t.inputs ≡ a → (b : Bool) → fresh (spends earlier) t.inputs ≡ b → (c : Bool) → ltb (total t.outputs + fee) (worths earlier t.inputs) ≡ c
        → pick a (pick b (pick c passes (refuses 28)) (refuses 27)) (refuses 26) ≡ passes → Funded fee earlier t
    go true p true q true r e = record { there = p; new = q; more = ltb-true (total t.outputs + fee) (worths earlier t.inputs) r }
    go true p true q false r e = absurd (let z : ◌≡◌ {A = ℕ} 0 1 = cc in omega arith)
    go true p false q c r e = absurd (let z : ◌≡◌ {A = ℕ} 0 1 = cc in omega arith)
    go false p b q c r e = absurd (let z : ◌≡◌ {A = ℕ} 0 1 = cc in omega arith)

pub told-funded : (fee : ℕ) (earlier : List Payment) (t : Payment) → Funded fee earlier t → funded fee earlier t ≡ passes
unfolding funded enough
told-funded fee earlier t f = rw (f.there, f.new, lt-ltb (total t.outputs + fee) (worths earlier t.inputs) f.more)

-- the case laws, in 02's order
module _ (fee : ℕ) (earlier : List Payment) (t : Payment) where
  pub funded_26 : exist earlier t.inputs ≡ false → funded fee earlier t ≡ refuses 26
  unfolding funded
  funded_26 p = rw p

  pub funded_27 : exist earlier t.inputs ≡ true → fresh (spends earlier) t.inputs ≡ false → funded fee earlier t ≡ refuses 27
  unfolding funded
  funded_27 p q = rw (p, q)

  pub funded_28 : exist earlier t.inputs ≡ true → fresh (spends earlier) t.inputs ≡ true → enough fee earlier t ≡ false → funded fee earlier t ≡ refuses 28
  unfolding funded
  funded_28 p q r = rw (p, q, r)

  pub amounts-told : amounts fee earlier t ≡ passes → t.anchored ≡ false → Funded fee earlier t
  unfolding amounts funded enough
  amounts-told e u = funded-told fee earlier t (rw u at e)

-- ---- place by place

pub fresh-told : (before inputs : List Outpoint) → fresh before inputs ≡ true → (k : ℕ) → k < length inputs → spent (get_or inputs k no_outpoint) (before ++ take k inputs) ≡ false
unfolding fresh
fresh-told before [] e k h = absurd (omega arith)
fresh-told before (i ∷ l) e zero h = rw append-nil (not-true (spent i before) (and_left (not (spent i before)) (fresh (before ++ (i ∷ [])) l) e))
fresh-told before (i ∷ l) e (suc k) h = rw append_assoc at (fresh-told (before ++ (i ∷ [])) l (and_right (not (spent i before)) (fresh (before ++ (i ∷ [])) l) e) k (omega arith))

pub exist-told : (earlier : List Payment) (inputs : List Outpoint) → exist earlier inputs ≡ true → (m : ℕ) → m < length inputs
    → (get_or inputs m no_outpoint).output < length (outputs_of earlier (get_or inputs m no_outpoint).parent)
unfolding exist
exist-told earlier [] e m h = absurd (omega arith)
exist-told earlier (i ∷ l) e zero h = ltb-true i.output (length (outputs_of earlier i.parent)) (and_left (ltb i.output (length (outputs_of earlier i.parent))) (exist earlier l) e)
exist-told earlier (i ∷ l) e (suc m) h = exist-told earlier l (and_right (ltb i.output (length (outputs_of earlier i.parent))) (exist earlier l) e) m (omega arith)

-- outputs that are found are those of a transaction with that id
pub outputs_at_lem : (earlier : List Payment) (x : List ℕ) (n : ℕ) → n < length (outputs_of earlier x)
    → (j : ℕ) × (j < length earlier) × ((get_or earlier j no_payment).id ≡ x) × (outputs_of earlier x ≡ (get_or earlier j no_payment).outputs)
unfolding outputs_of
outputs_at_lem [] x n h = absurd (omega arith)
outputs_at_lem (t ∷ l) x n h = go (same t.id x) refl h (outputs_at_lem l x n)
  where
    go : (b : Bool) → same t.id x ≡ b → n < length (pick b t.outputs (outputs_of l x))
        → (n < length (outputs_of l x) → (j : ℕ) × (j < length l) × ((get_or l j no_payment).id ≡ x) × (outputs_of l x ≡ (get_or l j no_payment).outputs))
        → (j : ℕ) × (j < suc (length l)) × ((get_or (t ∷ l) j no_payment).id ≡ x) × (pick b t.outputs (outputs_of l x) ≡ (get_or (t ∷ l) j no_payment).outputs)
    go true e h f = (0, omega arith, same_eq t.id x e, refl)
    go false e h f = let w = f h in (suc w.0, omega (arith, w.1), w.2, w.3)

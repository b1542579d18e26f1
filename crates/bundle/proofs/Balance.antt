-- The sums behind Item 9's promise: each output that inputs spend once moves from what is unspent to what the inputs are worth.
use Prim.Native.Nat.{ℕ, zero, suc, ◌+◌, ◌<◌, ◌≤◌}
use mathlib.Core.Path.{◌≡◌, refl, sym, ap, ◌∙◌}
use mathlib.Core.Bool.{Bool, true, false, not, ◌||◌}
use mathlib.Core.List.{List, [], ◌∷◌, ◌++◌, append_assoc, append-nil}
use native.Mathlib.Omega.{arith}
use lib.ListN.{length, get_or}
use borrow.Author.Tests.{not-true}
use Rattle.format.specs.Parse.{pick}
use Rattle.spv.proofs.TestLaws.{clash, and_left, and_right}
use Rattle.format.specs.Bytes.{same}
use Rattle.format.proofs.BytesLaws.{same_eq, same_refl}
use Rattle.bundle.specs.Amounts.{Outpoint, Payment, total, outputs_of, same_output, spent, fresh, worth, worths, anchored_total, kept, unspent}
use Rattle.bundle.proofs.AmountLaws.{same-output-told, told-same-output, spent_last}
use Rattle.bundle.specs.Payments.{no_payment, Different}

-- all outputs
unfoldable pub grand : List Payment → ℕ
grand [] = 0
grand (t ∷ l) = total t.outputs + grand l

unfoldable pub unanchored_total : List Payment → ℕ
unanchored_total [] = 0
unanchored_total (t ∷ l) = pick t.anchored 0 (total t.outputs) + unanchored_total l

pub grand_parts : (l : List Payment) → grand l ≡ anchored_total l + unanchored_total l
unfolding grand anchored_total unanchored_total
grand_parts [] = refl
grand_parts (t ∷ l) = go t.anchored (grand_parts l)
  where
    go : (b : Bool) → grand l ≡ anchored_total l + unanchored_total l
        → total t.outputs + grand l ≡ (pick b (total t.outputs) 0 + anchored_total l) + (pick b 0 (total t.outputs) + unanchored_total l)
    go true e = omega arith
    go false e = omega arith

-- with nothing spent
kept-all : (id : List ℕ) (n : ℕ) (l : List ℕ) → kept [] id n l ≡ total l
unfolding kept total spent
kept-all id n [] = refl
kept-all id n (v ∷ l) = ap (λ (x : ℕ). v + x) (kept-all id (suc n) l)

pub unspent-all : (l : List Payment) → unspent [] l ≡ grand l
unfolding unspent grand
unspent-all [] = refl
unspent-all (t ∷ l) = omega (arith, kept-all t.id 0 t.outputs, unspent-all l)

kept_le : (inputs : List Outpoint) (id : List ℕ) (n : ℕ) (l : List ℕ) → kept inputs id n l ≤ total l
unfolding kept total
kept_le inputs id n [] = omega arith
kept_le inputs id n (v ∷ l) = go (spent (record { parent = id; output = n }) inputs) (kept_le inputs id (suc n) l)
  where
    go : (b : Bool) → kept inputs id (suc n) l ≤ total l → pick b 0 v + kept inputs id (suc n) l ≤ v + total l
    go true h = omega arith
    go false h = omega arith

pub unspent_le : (inputs : List Outpoint) (l : List Payment) → unspent inputs l ≤ grand l
unfolding unspent grand
unspent_le inputs [] = omega arith
unspent_le inputs (t ∷ l) = omega (arith, kept_le inputs t.id 0 t.outputs, unspent_le inputs l)

-- ---- one more output spent

abbrev at : List ℕ → ℕ → Outpoint
at id n = record { parent = id; output = n }

module _ (before : List Outpoint) (i : Outpoint) where
  -- it is another output
  other : (j : Outpoint) → (i.parent ≡ j.parent → i.output ≡ j.output → ⊥) → spent j (before ++ (i ∷ [])) ≡ spent j before
  other j ne = spent_last j i before ∙ go (spent j before) (same_output i j) refl
    where
      go : (a b : Bool) → same_output i j ≡ b → (a || b) ≡ a
      go true b e = refl
      go false true e = let w = same-output-told i j e in absurd (ne w.0 w.1)
      go false false e = refl

  -- it is this one
  this : (j : Outpoint) → i.parent ≡ j.parent → i.output ≡ j.output → spent j (before ++ (i ∷ [])) ≡ true
  this j p q = spent_last j i before ∙ go (spent j before) (same_output i j) (told-same-output i j p q)
    where
      go : (a b : Bool) → b ≡ true → (a || b) ≡ true
      go true b e = refl
      go false b e = e

  -- a transaction with another id
  kept-other : (id : List ℕ) (n : ℕ) (l : List ℕ) → (i.parent ≡ id → ⊥) → kept (before ++ (i ∷ [])) id n l ≡ kept before id n l
  unfolding kept
  kept-other id n [] ne = refl
  kept-other id n (v ∷ l) ne = rw (other (at id n) (λ p q. ne p), kept-other id (suc n) l ne)

  -- outputs after it
  kept-after : (id : List ℕ) (n : ℕ) (l : List ℕ) → i.output < n → kept (before ++ (i ∷ [])) id n l ≡ kept before id n l
  unfolding kept
  kept-after id n [] h = refl
  kept-after id n (v ∷ l) h = rw (other (at id n) (λ p q. omega arith), kept-after id (suc n) l (omega arith))

  -- its own transaction, whose outputs from n on hold it at m
  kept_this : (id : List ℕ) (n m : ℕ) (l : List ℕ) → i.parent ≡ id → i.output ≡ n + m → spent i before ≡ false
      → kept (before ++ (i ∷ [])) id n l + get_or l m 0 ≡ kept before id n l
  unfolding kept
  kept_this id n m [] p q new = refl
  kept_this id n zero (v ∷ l) p q new =
      rw (this (at id n) p (omega arith), unspent_yet, kept-after id (suc n) l (omega arith)) (omega arith)
    where
      unspent_yet : spent (at id n) before ≡ false
      unspent_yet = let e : i ≡ at id n = (λ k. record { parent = p k; output = here k }) in rw (← e) new
        where
          here : i.output ≡ n
          here = omega arith
  kept_this id n (suc m) (v ∷ l) p q new =
      let e = kept_this id (suc n) m l p (omega arith) new in
      rw (other (at id n) (λ a b. omega arith)) (omega arith)

  unspent-other : (l : List Payment) → ((k : ℕ) → k < length l → i.parent ≡ (get_or l k no_payment).id → ⊥) → unspent (before ++ (i ∷ [])) l ≡ unspent before l
  unfolding unspent
  unspent-other [] ne = refl
  unspent-other (t ∷ l) ne = rw (kept-other t.id 0 t.outputs (ne 0 (omega arith)), unspent-other l (λ k h. ne (suc k) (omega arith)))

  -- it leaves what is unspent, by its amount
  pub unspent-one : (l : List Payment) → Different l → spent i before ≡ false → unspent (before ++ (i ∷ [])) l + worth l i ≡ unspent before l
  unfolding unspent worth outputs_of
  unspent-one [] d new = refl
  unspent-one (t ∷ l) d new = go (same t.id i.parent) refl (unspent-one l (λ j k a b e. d (suc j) (suc k) (omega arith) (omega arith) e) new)
    where
      go : (b : Bool) → same t.id i.parent ≡ b → unspent (before ++ (i ∷ [])) l + get_or (outputs_of l i.parent) i.output 0 ≡ unspent before l
          → (kept (before ++ (i ∷ [])) t.id 0 t.outputs + unspent (before ++ (i ∷ [])) l) + get_or (pick b t.outputs (outputs_of l i.parent)) i.output 0 ≡ kept before t.id 0 t.outputs + unspent before l
      go true e f =
          let p : t.id ≡ i.parent = same_eq t.id i.parent e in
          let a = kept_this t.id 0 i.output t.outputs (sym p) (omega arith) new in
          let b = unspent-other l (λ k h q. d 0 (suc k) (omega arith) (omega arith) (p ∙ q)) in
          omega arith
      go false e f =
          let a = kept-other t.id 0 t.outputs (λ p. clash (same t.id i.parent) (rw p (same_refl t.id)) e) in
          omega arith

-- and so for all that inputs spend, each once
pub unspent-many : (l : List Payment) → Different l → (before inputs : List Outpoint) → fresh before inputs ≡ true → unspent (before ++ inputs) l + worths l inputs ≡ unspent before l
unfolding fresh worths
unspent-many l d before [] e = rw append-nil (omega arith)
unspent-many l d before (i ∷ inputs) e =
    let new = not-true (spent i before) (and_left (not (spent i before)) (fresh (before ++ (i ∷ [])) inputs) e) in
    let a = unspent-one before i l d new in
    let b : unspent (before ++ (i ∷ inputs)) l + worths l inputs ≡ unspent (before ++ (i ∷ [])) l = rw append_assoc at (unspent-many l d (before ++ (i ∷ [])) inputs (and_right (not (spent i before)) (fresh (before ++ (i ∷ [])) inputs) e)) in
    omega arith

-- 26 by the flat form.
use Prim.Native.Nat.{ℕ, zero, suc, ◌+◌, ◌-◌, ◌<◌, ◌≤◌}
use mathlib.Core.Path.{◌≡◌, refl, sym, ap, ap₂, ◌∙◌}
use mathlib.Core.Bool.{Bool, true, false, ◌&&◌}
use mathlib.Core.List.{List, [], ◌∷◌, map}
use native.Mathlib.Omega.{arith}
use lib.Dec.{ltb}
use lib.ListN.{length, get_or}
use borrow.Author.Tests.{ltb-true, ltb-false, lt-ltb, le-ltb}
use Rattle.format.specs.declared.transaction.Input.{Input}
use Rattle.format.proofs.Basics.{one_less}
use Rattle.format.specs.Parse.{ok, fault, pick, many, times}
use Rattle.format.proofs.ParseLaws.{many-told}
use Rattle.format.specs.Bytes.{same, hash_at}
use Rattle.format.specs.Field.{le4}
use Rattle.format.specs.Transaction.{input_field}
use Rattle.format.proofs.TransactionLaws.{input-told}
use Rattle.bundle.specs.Amounts.{outpoint_of, Payment, ids_of, outputs_of, exist}
use Rattle.bundle.specs.Payments.{no_payment}
use Rattle.bundle.specs.FlatForm.{column, Finds, four_at, outputs_at, exist_from}
use Rattle.spv.specs.Hashes.{index_of, Distinct}
use Rattle.bundle.proofs.FlatLaws.{finds_index}
use Rattle.bundle.proofs.PicturedLaws.{four-there}

-- ---- a loop over inputs: i of n are passed

module _ (s : List ℕ) (ids : List (List ℕ)) (numbers : List ℕ) (n i at : ℕ) where
  pub exist-refused : {k q : ℕ} → i < n → input_field s at ≡ fault k q → exist_from s ids numbers (n - i) at ≡ false
  unfolding exist_from
  exist-refused low e = rw (one_less n i low) (rw e)

  pub exist-end : n ≤ i → exist_from s ids numbers (n - i) at ≡ true
  unfolding exist_from
  exist-end past = let none : n - i ≡ 0 = omega arith in rw none

  module _ (distinct : Distinct ids) (low : i < n) {input : Input} {q : ℕ} (read : input_field s at ≡ ok input q) {x : List ℕ} (is : x ≡ hash_at s input.parent) {p v c : ℕ} (finds : Finds x ids p)
      (four : v ≡ four_at s input.output) (count : c ≡ outputs_at ids numbers p) where
    test : ltb v c ≡ ltb (four_at s input.output) (outputs_at ids numbers (index_of (hash_at s input.parent) ids))
    test = ap₂ ltb four (count ∙ ap (outputs_at ids numbers) (finds_index x ids p distinct finds ∙ ap (λ (h : List ℕ). index_of h ids) is))

    pub exist-missing : c ≤ v → exist_from s ids numbers (n - i) at ≡ false
    unfolding exist_from
    exist-missing h = rw (one_less n i low) (rw read (ap (λ (b : Bool). pick b (exist_from s ids numbers (n - (i + 1)) q) false) (sym test ∙ le-ltb v c h)))

    pub exist_on : v < c → exist_from s ids numbers (n - i) at ≡ exist_from s ids numbers (n - (i + 1)) q
    unfolding exist_from
    exist_on h = rw (one_less n i low) (rw read (ap (λ (b : Bool). pick b (exist_from s ids numbers (n - (i + 1)) q) false) (sym test ∙ lt-ltb v c h)))

pub outputs-past : (ids : List (List ℕ)) (numbers : List ℕ) (p : ℕ) → length ids ≤ p → 0 ≡ outputs_at ids numbers p
unfolding outputs_at
outputs-past ids numbers p h = rw (le-ltb p (length ids) h)

pub outputs_at_lem : (ids : List (List ℕ)) (numbers : List ℕ) (p : ℕ) → p < length ids → column numbers 5 p ≡ outputs_at ids numbers p
unfolding outputs_at
outputs_at_lem ids numbers p h = rw (lt-ltb p (length ids) h)

-- ---- what it says of transactions whose output counts the flat form holds

outputs_of_lem : (l : List Payment) (x : List ℕ) (counts : ℕ → ℕ) → ((k : ℕ) → k < length l → counts k ≡ length (get_or l k no_payment).outputs)
    → pick (ltb (index_of x (ids_of l)) (length (ids_of l))) (counts (index_of x (ids_of l))) 0 ≡ length (outputs_of l x)
unfolding index_of outputs_of
outputs_of_lem [] x counts f = refl
outputs_of_lem (t ∷ l) x counts f = go (same t.id x) (outputs_of_lem l x (λ k. counts (suc k)) (λ k h. f (suc k) (omega arith)))
  where
    shift : (a b : ℕ) → ltb (suc a) (suc b) ≡ ltb a b
    shift a b = by (ltb a b) refl
      where
        by : (t : Bool) → ltb a b ≡ t → ltb (suc a) (suc b) ≡ ltb a b
        by true e = lt-ltb (suc a) (suc b) (let h = ltb-true a b e in omega arith) ∙ sym e
        by false e = le-ltb (suc a) (suc b) (let h = ltb-false a b e in omega arith) ∙ sym e

    go : (b : Bool) → pick (ltb (index_of x (ids_of l)) (length (ids_of l))) (counts (suc (index_of x (ids_of l)))) 0 ≡ length (outputs_of l x)
        → pick (ltb (pick b 0 (suc (index_of x (ids_of l)))) (suc (length (ids_of l)))) (counts (pick b 0 (suc (index_of x (ids_of l))))) 0 ≡ length (pick b t.outputs (outputs_of l x))
    go true e = ap (λ (b : Bool). pick b (counts 0) 0) (lt-ltb 0 (suc (length (ids_of l))) (omega arith)) ∙ f 0 (omega arith)
    go false e = ap (λ (b : Bool). pick b (counts (suc (index_of x (ids_of l)))) 0) (shift (index_of x (ids_of l)) (length (ids_of l))) ∙ e

pub exist-is : (s : List ℕ) (l : List Payment) (numbers : List ℕ) → ((k : ℕ) → k < length l → column numbers 5 k ≡ length (get_or l k no_payment).outputs)
    → (n at : ℕ) {raw : List Input} {q : ℕ} → times input_field n s at ≡ ok raw q → exist_from s (ids_of l) numbers n at ≡ exist l (map (outpoint_of s) raw)
unfolding exist_from exist many outputs_at
exist-is s l numbers f zero at {raw} e = let none : [] ≡ raw = cc in rw (← none)
exist-is s l numbers f (suc n) at {raw} {q} e =
    let x = many-told {S = Unit {0}} (λ _. input_field) (λ u _. u) n tt s at e in
    more x.0 x.1 x.2 x.3 x.5 (exist-is s l numbers f n x.1 x.4)
  where
    both : (t a b : Bool) → a ≡ b → pick t a false ≡ (t && b)
    both true a b e = e
    both false a b e = refl

    more : (a : Input) (r : ℕ) (rest : List Input) → input_field s at ≡ ok a r → a ∷ rest ≡ raw → exist_from s (ids_of l) numbers n r ≡ exist l (map (outpoint_of s) rest)
        → exist_from s (ids_of l) numbers (suc n) at ≡ exist l (map (outpoint_of s) raw)
    more a r rest read whole g =
        let told = input-told s at read in
        let four = four-there s a.output (omega (arith, told.output-is, told.inside)) in
        let count = outputs_of_lem l (hash_at s a.parent) (λ k. column numbers 5 k) f in
        rw (read, ← whole) (ap₂ (λ (v c : ℕ). pick (ltb v c) (exist_from s (ids_of l) numbers n r) false) four count
        ∙ both (ltb (le4 s a.output) (length (outputs_of l (hash_at s a.parent)))) (exist_from s (ids_of l) numbers n r) (exist l (map (outpoint_of s) rest)) g)

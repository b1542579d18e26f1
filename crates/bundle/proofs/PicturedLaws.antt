-- What the flat form of transactions says of what counts of them, and what follows for numbers and lists.
use Prim.Native.Nat.{ℕ, zero, suc, ◌+◌, ◌<◌, ◌≤◌}
use mathlib.Core.Path.{◌≡◌, sym, ap, ap₂, ◌∙◌}
use mathlib.Core.Bool.{Bool, true, false}
use mathlib.Core.List.{List, [], ◌∷◌, map}
use native.Mathlib.Omega.{arith}
use native.Mathlib.Nat.{mod-eq_of_lt}
use lib.Dec.{ltb}
use lib.ListN.{length, get_or, take, length-map}
use borrow.Author.Tests.{ltb-true, le-leb}
use Rattle.format.specs.declared.transaction.Input.{Input}
use Rattle.format.specs.Parse.{ok, pick, many, times}
use Rattle.format.proofs.ParseLaws.{many-told}
use Rattle.format.specs.Bytes.{same, hash_at}
use Rattle.format.specs.Field.{bytes, le4}
use Rattle.format.specs.Transaction.{input_field}
use Rattle.format.proofs.TransactionLaws.{input-told}
use Rattle.format.specs.Refusals.{U32}
use Rattle.spv.specs.Hashes.{index_of}
use Rattle.spv.proofs.TestLaws.{and_left, and_right}
use Rattle.bundle.specs.Amounts.{Outpoint, outpoint_of, Payment, ids_of, outputs_of, exist}
use Rattle.bundle.proofs.NumberingLaws.{There}
use Rattle.bundle.specs.FlatForm.{four_at, through, spent_from}
use Rattle.bundle.specs.Numbers.{flat, output_count}

-- an output's number by its transaction's place
pub flat-index : (l : List Payment) (i : Outpoint) → flat l i ≡ output_count (take (index_of i.parent (ids_of l)) l) + i.output
unfolding flat index_of output_count
flat-index [] i = omega arith
flat-index (t ∷ l) i = go (same t.id i.parent) (flat-index l i)
  where
    go : (b : Bool) → flat l i ≡ output_count (take (index_of i.parent (ids_of l)) l) + i.output
        → pick b i.output (length t.outputs + flat l i) ≡ output_count (take (pick b 0 (suc (index_of i.parent (ids_of l)))) (t ∷ l)) + i.output
    go true e = omega arith
    go false e = omega arith

index_le : (x : List ℕ) (l : List (List ℕ)) → index_of x l ≤ length l
unfolding index_of
index_le x [] = omega arith
index_le x (y ∷ l) = go (same y x) (index_le x l)
  where
    go : (b : Bool) → index_of x l ≤ length l → pick b 0 (suc (index_of x l)) ≤ suc (length l)
    go true h = omega arith
    go false h = omega arith

pub take_count : (l : List Payment) (k : ℕ) → output_count (take k l) ≤ output_count l
unfolding output_count
take_count [] zero = omega arith
take_count [] (suc k) = omega arith
take_count (t ∷ l) zero = omega arith
take_count (t ∷ l) (suc k) = omega (arith, take_count l k)

there-low : (l : List Payment) (x : List ℕ) → length (outputs_of l x) ≤ output_count l
unfolding outputs_of output_count
there-low [] x = omega arith
there-low (t ∷ l) x = go (same t.id x) (there-low l x)
  where
    go : (b : Bool) → length (outputs_of l x) ≤ output_count l → length (pick b t.outputs (outputs_of l x)) ≤ length t.outputs + output_count l
    go true h = omega arith
    go false h = omega arith

-- four bytes that are there
pub four-there : (s : List ℕ) (at : ℕ) → at + 4 ≤ length s → four_at s at ≡ le4 s at
unfolding four_at bytes
four-there s at h = rw (le-leb (at + 4) (length s) h)

through-is : (firsts : List ℕ) (p v c : ℕ) → get_or firsts p 0 ≡ c → c < U32 → v < U32 → through firsts p v ≡ c + v
unfolding through
through-is firsts p v c e h g = rw (e, mod-eq_of_lt h, mod-eq_of_lt g)

pub exist_head : (l : List Payment) (i : Outpoint) (rest : List Outpoint) → exist l (i ∷ rest) ≡ true → There l i
unfolding exist
exist_head l i rest e = ltb-true i.output (length (outputs_of l i.parent)) (and_left (ltb i.output (length (outputs_of l i.parent))) (exist l rest) e)

pub exist_tail : (l : List Payment) (i : Outpoint) (rest : List Outpoint) → exist l (i ∷ rest) ≡ true → exist l rest ≡ true
unfolding exist
exist_tail l i rest e = and_right (ltb i.output (length (outputs_of l i.parent))) (exist l rest) e

-- the numbers of what inputs spend, each of which is there
pub spent-is : (s : List ℕ) (l : List Payment) (firsts : List ℕ) → output_count l < U32 → ((p : ℕ) → p ≤ length l → get_or firsts p 0 ≡ output_count (take p l))
    → (n at : ℕ) {raw : List Input} {q : ℕ} → times input_field n s at ≡ ok raw q → exist l (map (outpoint_of s) raw) ≡ true → spent_from s (ids_of l) firsts n at ≡ map (flat l) (map (outpoint_of s) raw)
unfolding spent_from many
spent-is s l firsts few is zero at {raw} e h = let none : [] ≡ raw = cc in rw (← none)
spent-is s l firsts few is (suc n) at {raw} {q} e h =
    let x = many-told {S = Unit {0}} (λ _. input_field) (λ u _. u) n tt s at e in
    let y : exist l (map (outpoint_of s) (x.0 ∷ x.2)) ≡ true = ap (λ (r : List Input). exist l (map (outpoint_of s) r)) x.5 ∙ h in
    more x.0 x.1 x.2 x.3 x.5 (head_there x.0 x.2 y) (spent-is s l firsts few is n x.1 x.4 (tail_there x.0 x.2 y))
  where
    head_there : (a : Input) (rest : List Input) → exist l (map (outpoint_of s) (a ∷ rest)) ≡ true → There l (outpoint_of s a)
    head_there a rest e = exist_head l (outpoint_of s a) (map (outpoint_of s) rest) e

    tail_there : (a : Input) (rest : List Input) → exist l (map (outpoint_of s) (a ∷ rest)) ≡ true → exist l (map (outpoint_of s) rest) ≡ true
    tail_there a rest e = exist_tail l (outpoint_of s a) (map (outpoint_of s) rest) e

    more : (a : Input) (r : ℕ) (rest : List Input) → input_field s at ≡ ok a r → a ∷ rest ≡ raw → There l (outpoint_of s a) → spent_from s (ids_of l) firsts n r ≡ map (flat l) (map (outpoint_of s) rest)
        → spent_from s (ids_of l) firsts (suc n) at ≡ map (flat l) (map (outpoint_of s) raw)
    more a r rest read whole low f =
        let told = input-told s at read in
        let inside : a.output + 4 ≤ length s = omega (arith, told.output-is, told.inside) in
        rw (read, ← whole) (ap₂ ◌∷◌ (number_is inside) f)
      where
        number_is : a.output + 4 ≤ length s → through firsts (index_of (hash_at s a.parent) (ids_of l)) (four_at s a.output) ≡ flat l (outpoint_of s a)
        number_is inside =
            let p : ℕ = index_of (hash_at s a.parent) (ids_of l) in
            let few-p : output_count (take p l) < U32 = omega (arith, few, take_count l p) in
            let few-v : le4 s a.output < U32 = omega (arith, few, low, there-low l (hash_at s a.parent)) in
            ap (through firsts p) (four-there s a.output inside)
            ∙ through-is firsts p (le4 s a.output) (output_count (take p l)) (is p (omega (arith, index_le (hash_at s a.parent) (ids_of l), length-map l (λ (t : Payment). t.id)))) few-p few-v
            ∙ sym (flat-index l (outpoint_of s a))

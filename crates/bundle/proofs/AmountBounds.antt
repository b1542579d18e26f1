-- What fits 64 bits.
use Prim.Native.Nat.{ℕ, suc, ◌+◌, ◌-◌, ◌*◌, ◌<◌, ◌≤◌}
use mathlib.Core.Path.{◌≡◌, sym, ap, ◌∙◌}
use mathlib.Core.Bool.{true, ◌&&◌}
use mathlib.Core.List.{List, [], ◌∷◌, ◌++◌}
use native.Mathlib.Decide.{dec_lt}
use native.Mathlib.Omega.{arith}
use lib.Dec.{ltb}
use lib.ListN.{length, get_or, take, drop, take-append-drop}
use borrow.Author.Tests.{lt-ltb, le-ltb}
use Rattle.format.specs.Refusals.{MAX_TOTAL}
use Rattle.spv.proofs.TestLaws.{and_left}
use Rattle.bundle.specs.Amounts.{Outpoint, Payment, total, fresh, worths, enough, anchored_total, unspent}
use Rattle.bundle.proofs.AmountLaws.{fresh_append}
use Rattle.bundle.proofs.Balance.{grand, grand_parts, unspent_le, unspent-many}
use Rattle.bundle.specs.Payments.{no_payment, Different}

-- each transaction's outputs come to no more (25)
abbrev pub Modest : List Payment → Type 0
Modest l = (k : ℕ) → k < length l → total (get_or l k no_payment).outputs ≤ MAX_TOTAL

pub grand_bound : (l : List Payment) → Modest l → grand l ≤ length l * MAX_TOTAL
unfolding grand
grand_bound [] f = omega arith
grand_bound (t ∷ l) f = let a : total t.outputs ≤ MAX_TOTAL = f 0 (omega arith) in let b = grand_bound l (λ k h. f (suc k) (omega arith)) in omega arith

-- all outputs of 256 transactions: 537,600,000,000,000,000, less than 2^63
pub grand_fits : (l : List Payment) → Modest l → length l ≤ 256 → grand l ≤ 537_600_000_000_000_000
grand_fits l f h = omega (arith, grand_bound l f)

pub anchored-fits : (l : List Payment) → Modest l → length l ≤ 256 → anchored_total l ≤ 537_600_000_000_000_000
anchored-fits l f h = omega (arith, grand_fits l f h, grand_parts l)

pub unspent-fits : (inputs : List Outpoint) (l : List Payment) → Modest l → length l ≤ 256 → unspent inputs l ≤ 537_600_000_000_000_000
unspent-fits inputs l f h = omega (arith, grand_fits l f h, unspent_le inputs l)

-- inputs that spend each output once are worth no more than all outputs, however many they are: so 27 is asked of all inputs before they are summed
pub worths_le : (l : List Payment) → Different l → (before inputs : List Outpoint) → fresh before inputs ≡ true → worths l inputs ≤ grand l
worths_le l d before inputs e = omega (arith, unspent-many l d before inputs e, unspent_le before l)

-- and so is the sum at each step of a loop over them
pub fresh-take : (before inputs : List Outpoint) (m : ℕ) → fresh before inputs ≡ true → fresh before (take m inputs) ≡ true
fresh-take before inputs m e =
    and_left (fresh before (take m inputs)) (fresh (before ++ take m inputs) (drop m inputs))
    (sym (fresh_append before (take m inputs) (drop m inputs)) ∙ ap (fresh before) (take-append-drop m inputs) ∙ e)

pub running_fits : (l : List Payment) → Different l → Modest l → length l ≤ 256 → (before inputs : List Outpoint) → fresh before inputs ≡ true → (m : ℕ)
    → worths l (take m inputs) ≤ 537_600_000_000_000_000
running_fits l d f h before inputs e m = omega (arith, worths_le l d before (take m inputs) (fresh-take before inputs m e), grand_fits l f h)

-- outputs + fee may wrap, as a fee may be any number of 64 bits; this does not: `outputs < inputs && fee < inputs - outputs`
pub enough-code : (fee : ℕ) (earlier : List Payment) (t : Payment)
    → enough fee earlier t ≡ (ltb (total t.outputs) (worths earlier t.inputs) && ltb fee (worths earlier t.inputs - total t.outputs))
unfolding enough
enough-code fee earlier t = go (total t.outputs) (worths earlier t.inputs) (dec_lt (total t.outputs + fee) (worths earlier t.inputs)) (dec_lt (total t.outputs) (worths earlier t.inputs))
  where
    go : (o i : ℕ) → Dec (o + fee < i) → Dec (o < i) → ltb (o + fee) i ≡ (ltb o i && ltb fee (i - o))
    go o i (yes a) b = rw (lt-ltb (o + fee) i a, lt-ltb o i (omega arith), lt-ltb fee (i - o) (omega arith))
    go o i (no a) (yes b) = rw (le-ltb (o + fee) i (omega arith), lt-ltb o i b, le-ltb fee (i - o) (omega arith))
    go o i (no a) (no b) = rw (le-ltb (o + fee) i (omega arith), le-ltb o i (omega arith))

-- 25: a running total so far within the limit, and one amount more of which nothing is known but that it fits its limit, stays below twice the limit
pub running_total : (l : List ℕ) (v : ℕ) → total l ≤ MAX_TOTAL → v ≤ MAX_TOTAL → total l + v ≤ 4_200_000_000_000_000
running_total l v a b = omega arith

pub fee_code : (o i fee : ℕ) → o < i → ltb fee (i - o) ≡ ltb (o + fee) i
fee_code o i fee h = go (dec_lt (o + fee) i)
  where
    go : Dec (o + fee < i) → ltb fee (i - o) ≡ ltb (o + fee) i
    go (yes a) = rw (lt-ltb (o + fee) i a, lt-ltb fee (i - o) (omega arith))
    go (no a) = rw (le-ltb (o + fee) i (omega arith), le-ltb fee (i - o) (omega arith))

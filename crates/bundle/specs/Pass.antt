-- What the pass for 27 and 28 answers, and what its parts rest on.
use Rattle.std.specs.Prelude.{Result as Answer, Ok, Err, ℕ, ◌-◌, ◌<◌, ◌≤◌, ◌≡◌, Bool, true, false, ◌&&◌, List, [], map, ltb, eqb, length, get_or, take, drop}
use Rattle.format.specs.Parse.{pick}
use Rattle.spv.specs.declared.rejection.Rejection.{Rejection}
use Rattle.spv.specs.Result.{accepted, refused, Result}
use Rattle.bundle.specs.Amounts.{Payment, AmountRuling, fresh, spends, worths, total}
use Rattle.bundle.specs.Payments.{no_payment}
use Rattle.format.specs.Refusals.{U32}
use Rattle.bundle.specs.declared.sums.Walk.{Walk}
use Rattle.bundle.specs.Numbers.{output_count, fresh_numbers}
use Rattle.bundle.specs.Windows.{numbers_of, numbers_in, spender_from, fresh_in}
use Rattle.bundle.specs.Walks.{Here, Sums}
use Rattle.bundle.specs.FlatForm.{column}
use Rattle.bundle.specs.Pictured.{Pictured}
use Rattle.bundle.specs.Second.{second, fault_in}
use Rattle.bundle.specs.Bundle.{Judgement}

abbrev pub WINDOW : ℕ
WINDOW = 65536

-- nothing, or the first refusal
abbrev pub Checked : Type 0
Checked = Answer (Unit {0}) Rejection

unfoldable pub amounts_of : Checked → AmountRuling
amounts_of (Ok u) = accepted tt
amounts_of (Err why) = refused why

unfoldable pub is_enough : ℕ → ℕ → ℕ → ℕ → Bool
is_enough fee anchored out sum = pick (eqb anchored 0) (ltb out sum && ltb fee (sum - out)) true

-- where each transaction's outputs start through the bundle
abbrev pub Firsts : List ℕ → List Payment → Type 0
Firsts firsts l = (p : ℕ) → p ≤ length l → get_or firsts p 0 ≡ output_count (take p l)

-- the flat form says how many outputs each transaction has, and they are not too many
abbrev pub Counts : List ℕ → List Payment → Type 0
Counts numbers l = ((k : ℕ) → k < length l → column numbers 5 k ≡ length (get_or l k no_payment).outputs) × (output_count l < U32)

-- the numbers of what each transaction spends, and who spends an output first
abbrev pub lists_of : List Payment → List (List ℕ)
lists_of l = map (numbers_of l) l

abbrev pub spender_of : List Payment → ℕ → ℕ
spender_of l x = spender_from 1 (drop 1 (lists_of l)) x

-- windows up to an output are passed
pub record Reached (s : List ℕ) (l : List Payment) (base first : ℕ) (walk : Walk) (sums : List ℕ) : Type 0 where
  pub first_le : first ≤ length l
  pub clean : (j : ℕ) → 1 ≤ j → j < length l → j < first → fresh_in 0 base (numbers_in (take j (lists_of l))) (get_or (lists_of l) j []) ≡ true
  pub again : first < length l → (1 ≤ first) × (fresh_numbers (numbers_in (take first (lists_of l))) (get_or (lists_of l) first []) ≡ false)
  pub sums_are : Sums l (spender_of l) base sums
  pub here : Here s l walk base

-- all are passed
pub record Ends (l : List Payment) (first : ℕ) (sums : List ℕ) : Type 0 where
  pub first_le : first ≤ length l
  pub clean : (j : ℕ) → 1 ≤ j → j < length l → j < first → fresh_in 0 (output_count l) (numbers_in (take j (lists_of l))) (get_or (lists_of l) j []) ≡ true
  pub again : first < length l → (1 ≤ first) × (fresh_numbers (numbers_in (take first (lists_of l))) (get_or (lists_of l) first []) ≡ false)
  pub sums_are : Sums l (spender_of l) (output_count l) sums

-- n transactions: those before `first` spend nothing again, and `first`, if it is one of them, does; of those before it the sums are what their inputs come to
pub record Settles (numbers sums : List ℕ) (fee n first : ℕ) (l : List Payment) : Type 0 where
  pub count : length l ≡ n
  pub anchored : (k : ℕ) → k < n → (column numbers 3 k ≡ 0 → ⊥) → (get_or l k no_payment).anchored ≡ true
  pub unanchored : (k : ℕ) → k < n → column numbers 3 k ≡ 0 → (get_or l k no_payment).anchored ≡ false
  pub totals : (k : ℕ) → k < n → column numbers 6 k ≡ total (get_or l k no_payment).outputs
  pub clean : (k : ℕ) → k < n → k < first → (get_or l k no_payment).anchored ≡ false → fresh (spends (take k l)) (get_or l k no_payment).inputs ≡ true
  pub again : first < n → ((get_or l first no_payment).anchored ≡ false) × (fresh (spends (take first l)) (get_or l first no_payment).inputs ≡ false)
  pub sum : (k : ℕ) → k < n → k < first → (get_or l k no_payment).anchored ≡ false → get_or sums k 0 ≡ worths (take k l) (get_or l k no_payment).inputs

-- the answer of the whole pass
abbrev pub Judged : List ℕ → List ℕ → List ℕ → ℕ → ℕ → Checked → Type 0
Judged s ids numbers fee n r = (l : List Payment) → length l ≡ n → Pictured s ids numbers l → amounts_of r ≡ fault_in (second fee) n [] l

-- so many without a mark
abbrev pub Blank : ℕ → List ℕ → Type 0
Blank size marks = (length marks ≡ size) × ((j : ℕ) → get_or marks j 0 ≡ 0)

-- a judgement after a second pass: its refusal comes first
unfoldable pub settled : Result (Unit {0}) → Judgement → Judgement
settled (refused why) j = refused why
settled (accepted u) j = j

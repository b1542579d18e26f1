-- A place among all outputs of a bundle, and sums by spender.
use Rattle.std.specs.Prelude.{ℕ, ◌+◌, ◌*◌, ◌<◌, ◌≤◌, ◌≡◌, true, List, ◌++◌, ltb, leb, eqb, length, get_or, take}
use Rattle.format.specs.Parse.{ok, pick, many}
use Rattle.format.specs.Transaction.{takes, output_field, outputs_field}
use Rattle.bundle.specs.declared.sums.Walk.{Walk}
use Rattle.bundle.specs.Amounts.{Payment, total}
use Rattle.bundle.specs.Payments.{no_payment}
use Rattle.bundle.specs.Numbers.{output_count}
use Rattle.bundle.specs.Windows.{amounts_in, sum_to}
use Rattle.bundle.specs.FlatForm.{column}

unfoldable pub walk_at : List ℕ → ℕ → Walk
walk_at numbers k = record { entry = k; left = column numbers 5 k; next = record { at = column numbers 9 k } }

unfoldable pub onward_of : List ℕ → Walk → Walk
onward_of numbers w = pick (eqb w.left 0) (pick (ltb w.entry 256) (pick (leb (10 * w.entry + 20) (length numbers)) (walk_at numbers (w.entry + 1)) w) w) w

-- the amount of the output m
abbrev pub amount_at : List Payment → ℕ → ℕ
amount_at l m = get_or (amounts_in l) m 0

-- the flat form says of each transaction how many outputs it has, one at least, and where they are read
pub record Counted (s numbers : List ℕ) (l : List Payment) : Type 0 where
  pub few : length l ≤ 256
  pub long : 10 * length l ≤ length numbers
  pub outputs : (k : ℕ) → k < length l → column numbers 5 k ≡ length (get_or l k no_payment).outputs
  pub some : (k : ℕ) → k < length l → 1 ≤ length (get_or l k no_payment).outputs
  pub read : (k : ℕ) → k < length l → (q : ℕ) × (outputs_field true (length (get_or l k no_payment).outputs) s (column numbers 9 k) ≡ ok (get_or l k no_payment).outputs q)
  pub modest : (k : ℕ) → k < length l → total (get_or l k no_payment).outputs ≤ 2_100_000_000_000_000

-- the walk stands before the output m
pub record Here (s : List ℕ) (l : List Payment) (w : Walk) (m : ℕ) : Type 0 where
  pub low : w.entry < length l
  pub done : List ℕ
  pub rest : List ℕ
  pub parts : done ++ rest ≡ (get_or l w.entry no_payment).outputs
  pub left_is : w.left ≡ length rest
  pub end : ℕ
  pub read : many (λ t. output_field (takes true t)) ◌+◌ (length rest) (total done) s w.next.at ≡ ok rest end
  pub number : output_count (take w.entry l) + length done ≡ m

-- marks that name the spenders of so many outputs from m on
abbrev pub Says : List ℕ → ℕ → (ℕ → ℕ) → ℕ → Type 0
Says marks count spender m = (j : ℕ) → j < count → (get_or marks j 0 ≡ spender (m + j)) × (spender (m + j) < 256)

-- each sum is that of the outputs below m that its transaction spends
pub record Sums (l : List Payment) (spender : ℕ → ℕ) (m : ℕ) (sums : List ℕ) : Type 0 where
  pub size_is : length sums ≡ 256
  pub sum_is : (k : ℕ) → k < 256 → get_or sums k 0 ≡ sum_to (λ x. pick (eqb (spender x) k) (amount_at l x) 0) m

-- What the flat form of transactions says of them once they have passed 26.
use Rattle.std.specs.Prelude.{ℕ, ◌<◌, ◌≤◌, ◌≡◌, true, false, List, map, length, get_or, take}
use Rattle.format.specs.declared.transaction.Input.{Input}
use Rattle.format.specs.Parse.{ok, times}
use Rattle.format.specs.Transaction.{input_field}
use Rattle.format.specs.Refusals.{U32}
use Rattle.spv.specs.Hashes.{hashes_of}
use Rattle.bundle.specs.Amounts.{Payment, outpoint_of, ids_of, total, exist}
use Rattle.bundle.specs.Payments.{no_payment, Different}
use Rattle.bundle.specs.Numbers.{output_count}
use Rattle.bundle.specs.FlatForm.{column}
use Rattle.bundle.specs.Walks.{Counted}

pub record Pictured (s ids numbers : List ℕ) (l : List Payment) : Type 0 where
  pub counted : Counted s numbers l
  pub count_low : output_count l < U32
  pub ids_are : hashes_of ids ≡ ids_of l
  pub different : Different l
  pub unanchored : (k : ℕ) → k < length l → column numbers 3 k ≡ 0 → (get_or l k no_payment).anchored ≡ false
  pub anchored : (k : ℕ) → k < length l → (column numbers 3 k ≡ 0 → ⊥) → (get_or l k no_payment).anchored ≡ true
  pub totals : (k : ℕ) → k < length l → column numbers 6 k ≡ total (get_or l k no_payment).outputs
  pub inputs : (k : ℕ) → k < length l → (get_or l k no_payment).anchored ≡ false
      → (raw : List Input) × (q : ℕ) × (times input_field (column numbers 7 k) s (column numbers 8 k) ≡ ok raw q) × (map (outpoint_of s) raw ≡ (get_or l k no_payment).inputs)
  pub some : (k : ℕ) → k < length l → (get_or l k no_payment).anchored ≡ false → 1 ≤ length (get_or l k no_payment).inputs
  pub there : (k : ℕ) → k < length l → (get_or l k no_payment).anchored ≡ false → exist (take k l) (get_or l k no_payment).inputs ≡ true

-- What the flat form of transactions says of them before 26 is asked, and what is answered for 26, 27 and 28.
use Rattle.std.specs.Prelude.{ℕ, ◌*◌, ◌<◌, ◌≤◌, ◌≡◌, true, false, List, [], map, length, get_or, take, Option, Some, None}
use Rattle.format.specs.declared.transaction.Input.{Input}
use Rattle.format.specs.Parse.{ok, times}
use Rattle.format.specs.Transaction.{input_field}
use Rattle.format.specs.Refusals.{U32}
use Rattle.spv.specs.Hashes.{hashes_of}
use Rattle.bundle.specs.Amounts.{Payment, outpoint_of, ids_of, total, exist, amounts}
use Rattle.bundle.specs.Payments.{no_payment, Different}
use Rattle.bundle.specs.Numbers.{output_count}
use Rattle.bundle.specs.FlatForm.{column}
use Rattle.bundle.specs.Walks.{Counted}
use Rattle.bundle.specs.Second.{fault_in}
use Rattle.bundle.specs.Pass.{amounts_of, Checked}

pub record Shown (s ids numbers : List ℕ) (l : List Payment) : Type 0 where
  pub counted : Counted s numbers l
  pub count_low : output_count l < U32
  pub wide : 32 * length l ≤ length ids
  pub ids_are : hashes_of (take (32 * length l) ids) ≡ ids_of l
  pub different : Different l
  pub unanchored : (k : ℕ) → k < length l → column numbers 3 k ≡ 0 → (get_or l k no_payment).anchored ≡ false
  pub anchored : (k : ℕ) → k < length l → (column numbers 3 k ≡ 0 → ⊥) → (get_or l k no_payment).anchored ≡ true
  pub totals : (k : ℕ) → k < length l → column numbers 6 k ≡ total (get_or l k no_payment).outputs
  pub inputs : (k : ℕ) → k < length l → (get_or l k no_payment).anchored ≡ false
      → (raw : List Input) × (q : ℕ) × (times input_field (column numbers 7 k) s (column numbers 8 k) ≡ ok raw q) × (map (outpoint_of s) raw ≡ (get_or l k no_payment).inputs)
  pub some : (k : ℕ) → k < length l → (get_or l k no_payment).anchored ≡ false → 1 ≤ length (get_or l k no_payment).inputs

-- each transaction before m passes 26, and m, if it is one, does not
pub record FirstMissing (l : List Payment) (m : ℕ) : Type 0 where
  pub there : (k : ℕ) → k < m → (get_or l k no_payment).anchored ≡ false → exist (take k l) (get_or l k no_payment).inputs ≡ true
  pub missing : m < length l → ((get_or l m no_payment).anchored ≡ false) × (exist (take m l) (get_or l m no_payment).inputs ≡ false)

-- the first of n, if there is one, that does not pass 26
unfoldable pub Missing : List Payment → ℕ → Option ℕ → Type 0
Missing l n (Some m) = FirstMissing l m
Missing l n None = FirstMissing l n

-- the first refusal by 26, 27 or 28 is answered
abbrev pub Answers : List ℕ → List ℕ → List ℕ → ℕ → ℕ → Checked → Type 0
Answers s ids numbers fee n r = (l : List Payment) → length l ≡ n → Shown s ids numbers l → amounts_of r ≡ fault_in (amounts fee) n [] l

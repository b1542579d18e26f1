-- Transactions by what counts of them: the one past the last, and none with the id of another.
use Rattle.std.specs.Prelude.{false, [], List, ℕ, ◌<◌, ◌≡◌, length, get_or}
use Rattle.bundle.specs.Amounts.{Payment}

abbrev pub no_payment : Payment
no_payment = record { id = []; anchored = false; outputs = []; inputs = [] }

-- no two transactions have one id (19)
abbrev pub Different : List Payment → Type 0
Different l = (j k : ℕ) → j < k → k < length l → (get_or l j no_payment).id ≡ (get_or l k no_payment).id → ⊥

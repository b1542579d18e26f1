-- A number in a list, and outputs numbered through the bundle: 27 as a test on numbers, for code that marks what is spent.
use Rattle.std.specs.Prelude.{ℕ, ◌+◌, Bool, true, false, not, ◌&&◌, ◌||◌, List, [], ◌∷◌, ◌++◌, eqb, length}
use Rattle.format.specs.Parse.{pick}
use Rattle.format.specs.Bytes.{same}
use Rattle.bundle.specs.Amounts.{Outpoint, Payment}

unfoldable pub listed : ℕ → List ℕ → Bool
listed x [] = false
listed x (y ∷ l) = eqb y x || listed x l

-- the number of an output, counted through all transactions
unfoldable pub flat : List Payment → Outpoint → ℕ
flat [] i = i.output
flat (t ∷ l) i = pick (same t.id i.parent) i.output (length t.outputs + flat l i)

unfoldable pub output_count : List Payment → ℕ
output_count [] = 0
output_count (t ∷ l) = length t.outputs + output_count l

-- 27 on numbers
unfoldable pub fresh_numbers : List ℕ → List ℕ → Bool
fresh_numbers before [] = true
fresh_numbers before (x ∷ l) = not (listed x before) && fresh_numbers (before ++ (x ∷ [])) l

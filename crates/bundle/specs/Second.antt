-- What is asked in a second pass over transactions that passed everything up to 26: 27 and 28.
use Rattle.std.specs.Prelude.{ℕ, zero, suc, List, [], ◌∷◌, ◌++◌, length}
use Rattle.format.specs.Parse.{pick}
use Rattle.format.specs.Refusals.{SPENT_TWICE, TOO_LITTLE}
use Rattle.spv.specs.Result.{accepted, refused, blaming}
use Rattle.bundle.specs.Amounts.{Payment, AmountRuling, passes, refuses, fresh, spends, enough}

unfoldable pub second : ℕ → List Payment → Payment → AmountRuling
second fee earlier t = pick t.anchored passes (pick (fresh (spends earlier) t.inputs) (pick (enough fee earlier t) passes (refuses TOO_LITTLE)) (refuses SPENT_TWICE))

-- the first refusal by a rule among n, with its transaction's number
unfoldable pub fault_in : {A : Type 0} → (List A → A → AmountRuling) → ℕ → List A → List A → AmountRuling
fault_in rule zero earlier l = accepted tt
fault_in rule (suc n) earlier [] = accepted tt
fault_in rule (suc n) earlier (x ∷ l) = elim (rule earlier x) [ refused why ↦ refused (blaming (length earlier) why) | accepted u ↦ fault_in rule n (earlier ++ (x ∷ [])) l ]

-- 02, Item 9, computed: one output of 1,000 is anchored, and a child spends it (B9.1, B9.3, B9.4).
use Prim.Native.Nat.{ℕ}
use mathlib.Core.Path.{◌≡◌, refl}
use mathlib.Core.Bool.{true, false}
use mathlib.Core.List.{List, [], ◌∷◌}
use Rattle.format.specs.Bytes.{same}
use Rattle.bundle.specs.Amounts.{Outpoint, Payment, AmountRuling, passes, refuses, total, outputs_of, exist, same_output, spent, fresh, spends, worth, worths, enough, funded, anchored_total, kept, unspent, unspent_total, lefts}

abbrev from : ℕ → ℕ → Outpoint
from x n = record { parent = x ∷ []; output = n }

abbrev mined : Payment
mined = record { id = 1 ∷ []; anchored = true; outputs = 1000 ∷ []; inputs = from 77 3 ∷ [] }

abbrev child : List Outpoint → ℕ → Payment
child inputs v = record { id = 2 ∷ []; anchored = false; outputs = v ∷ []; inputs = inputs }

abbrev asked : ℕ → List Payment → List Outpoint → ℕ → AmountRuling
asked fee earlier inputs v = funded fee earlier (child inputs v)

-- spent twice within one transaction; a number that is not there comes first; spent by an earlier one; what an anchored one spends is not looked at
spending : asked 0 (mined ∷ []) (from 1 0 ∷ from 1 0 ∷ []) 0 ∷ asked 0 (mined ∷ []) (from 1 0 ∷ from 1 0 ∷ from 1 1 ∷ []) 0
    ∷ asked 0 (mined ∷ record { id = 3 ∷ []; anchored = false; outputs = 1 ∷ []; inputs = from 1 0 ∷ [] } ∷ []) (from 1 0 ∷ []) 0
    ∷ asked 0 (mined ∷ record { id = 3 ∷ []; anchored = true; outputs = 1 ∷ []; inputs = from 1 0 ∷ [] } ∷ []) (from 1 0 ∷ []) 0 ∷ []
    ≡ refuses 27 ∷ refuses 26 ∷ refuses 27 ∷ passes ∷ []
unfolding funded enough exist fresh spends spent same_output outputs_of worth worths total same
spending = refl

-- one left is enough, none is not; a fee that would wrap
paying : asked 0 (mined ∷ []) (from 1 0 ∷ []) 999 ∷ asked 0 (mined ∷ []) (from 1 0 ∷ []) 1000 ∷ asked 18446744073709551615 (mined ∷ []) (from 1 0 ∷ []) 999 ∷ [] ≡ passes ∷ refuses 28 ∷ refuses 28 ∷ []
unfolding funded enough exist fresh spends spent same_output outputs_of worth worths total same
paying = refl

-- 1,000 anchored: 999 are unspent, and 1 is left
balanced : anchored_total (mined ∷ child (from 1 0 ∷ []) 999 ∷ []) ∷ unspent_total (mined ∷ child (from 1 0 ∷ []) 999 ∷ []) ∷ lefts (λ k. k) (mined ∷ child (from 1 0 ∷ []) 999 ∷ []) ∷ [] ≡ 1000 ∷ 999 ∷ 1 ∷ []
unfolding anchored_total unspent_total unspent kept lefts total spends spent same_output same
balanced = refl

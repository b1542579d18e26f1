-- A number among numbers.
use Rattle.std.specs.Prelude.{ℕ, Bool, false, ◌||◌, List, [], ◌∷◌, eqb}

unfoldable pub listed : ℕ → List ℕ → Bool
listed x [] = false
listed x (y ∷ l) = eqb y x || listed x l

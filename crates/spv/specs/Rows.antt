-- Rows of a lent table, each by its number.
use Rattle.std.specs.Prelude.{ℕ, zero, suc, List, [], ◌∷◌, ◌++◌}

-- the n rows of which the i-th is f i
unfoldable pub rows : {A : Type 0} → (ℕ → A) → ℕ → List A
rows f zero = []
rows f (suc n) = rows f n ++ (f n ∷ [])

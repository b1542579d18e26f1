-- A list in a place of fixed length.
use Rattle.std.specs.Prelude.{List, ◌++◌, ℕ, ◌-◌, length, replicate}

-- n places, of which the first hold the list and the others z
unfoldable pub padded : {B : Type 0} → ℕ → B → List B → List B
padded n z l = l ++ replicate (n - length l) z

-- Items written one after the other, and which fit.
use Rattle.std.specs.Prelude.{List, [], ◌∷◌, ◌++◌, ℕ, ◌<◌, get_or}

-- every element is a byte
abbrev pub AllBytes : List ℕ → Type 0
AllBytes s = (i : ℕ) → get_or s i 0 < 256

unfoldable pub encode_all : {B : Type 0} → (B → List ℕ) → List B → List ℕ
encode_all encode [] = []
encode_all encode (b ∷ l) = encode b ++ encode_all encode l

-- each fits where the state before it is what the items before made it
unfoldable pub Fits : {S B : Type 0} → (S → B → Type 0) → (S → B → S) → S → List B → Type 0
Fits Fit next st [] = Unit
Fits Fit next st (b ∷ l) = Fit st b × Fits Fit next (next st b) l

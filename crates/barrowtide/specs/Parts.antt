-- What a call about a transaction in parts returns and leaves in memory that C lends, by what it says.
use Rattle.std.specs.Prelude.{ℕ, List, [], ◌∷◌}
use Rattle.stream.specs.Parts.{Said, more, refused, received}

-- The number that is returned while there is no answer yet: 0 is an acceptance, and this is no number of a refusal.
abbrev pub MORE : ℕ
MORE = 4294967295

unfoldable pub number : Said → ℕ
number more = MORE
number (refused n place) = n
number (received length inputs outputs id) = 0

-- What becomes of memory for what a refusal blames, and for a value of a transaction that was received.
unfoldable pub blame : Said → List ℕ → List ℕ
blame more old = old
blame (refused n place) old = place ∷ 0 ∷ 0 ∷ []
blame (received length inputs outputs id) old = old

unfoldable pub given : {A : Type 0} → (ℕ → ℕ → ℕ → List ℕ → A) → Said → A → A
given f more old = old
given f (refused n place) old = old
given f (received length inputs outputs id) old = f length inputs outputs id

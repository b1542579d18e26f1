-- What a call returns and leaves in memory that C lends, by what it comes to.
use Rattle.std.specs.Prelude.{ℕ, ◌+◌, ◌*◌, List, [], ◌∷◌, leb, length}
use Rattle.std.specs.Prelude.{Result as Answer, Ok, Err}
use Rattle.format.specs.Parse.{Parse, ok, fault, pick}
use Rattle.format.specs.Field.{varint}
use Rattle.format.specs.Refusals.{TOO_LONG, MAX_INPUT}
use Rattle.spv.specs.declared.rejection.Rejection.{Rejection}
use Rattle.spv.specs.Result.{Result, accepted, refused, carrying}

-- The version in one number: major, minor, patch.
abbrev pub VERSION : ℕ
VERSION = 0 * 65536 + 8 * 256 + 0

-- The number that is returned: 0 on acceptance.
unfoldable pub refusal : {A : Type 0} → Result A → ℕ
refusal (accepted a) = 0
refusal (refused why) = why.number

-- What a refusal blames, as C has it: what it carries, the layer, and the sibling's position there.
abbrev pub blamed : Rejection → List ℕ
blamed why = why.carried ∷ why.layer ∷ why.sibling ∷ []

-- What becomes of memory for what a refusal blames, and for a value that an acceptance gives.
unfoldable pub blame : {A : Type 0} → Result A → List ℕ → List ℕ
blame (accepted a) old = old
blame (refused why) old = blamed why

unfoldable pub taken : {A B : Type 0} → (A → B) → Result A → B → B
taken f (accepted a) old = f a
taken f (refused why) old = old

-- The same by an answer.
unfoldable pub number_told : {A : Type 0} → Answer A Rejection → ℕ
number_told (Ok a) = 0
number_told (Err why) = why.number

unfoldable pub blame_told : {A : Type 0} → Answer A Rejection → List ℕ → List ℕ
blame_told (Ok a) old = old
blame_told (Err why) old = blamed why

unfoldable pub told : {A B : Type 0} → (A → B) → Answer A Rejection → B → B
told f (Ok a) old = f a
told f (Err why) old = old

-- What was read, and what was read with the place after it.
unfoldable pub of_reading : {A : Type 0} → Parse A → Result A
of_reading (ok a next) = accepted a
of_reading (fault number place) = refused (carrying number place)

unfoldable pub of_reading_to : {A : Type 0} → Parse A → Result (A × ℕ)
of_reading_to (ok a next) = accepted (a, next)
of_reading_to (fault number place) = refused (carrying number place)

-- A VarInt at the start of an input of at most the input size, and how many bytes it takes.
unfoldable pub first_varint : List ℕ → Result (ℕ × ℕ)
first_varint s = pick (leb (length s) MAX_INPUT) (of_reading_to (varint s 0)) (refused (carrying TOO_LONG 0))

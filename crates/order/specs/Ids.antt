-- Searching among the ids of a set, which stand end to end.
use Rattle.std.specs.Prelude.{ℕ, ◌*◌, ◌<◌, ◌≡◌, List, length, get_or}
use Rattle.format.specs.Field.{le8}
use Rattle.format.specs.Bytes.{hash_at}

-- an id's first eight bytes as a number
unfoldable pub key_of : List ℕ → ℕ
key_of x = le8 x 0

-- the keys of n ids that stand end to end
abbrev pub Keys : List ℕ → List ℕ → ℕ → Type 0
Keys ids keys n = (length keys ≡ 256) × ((k : ℕ) → k < n → get_or keys k 0 ≡ key_of (hash_at ids (32 * k)))

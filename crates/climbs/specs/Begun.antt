-- Rows on their way to proofs: as they begin, and as they are closed once all have climbed.
use Rattle.std.specs.Prelude.{◌≡◌, Option, Some, None, ℕ, ◌+◌, ◌*◌, ◌%◌, ◌<◌, ◌≤◌, List, replicate, nat_le, nat_lt, slice_index}
use Rattle.format.specs.Parse.{pick}
use Rattle.format.specs.Bytes.{set_hash, hash_at}
use Rattle.format.specs.Refusals.{NOT_LISTED}
use Rattle.climbs.specs.Row.{number_of}

-- no layer made; refused at once if the id stands nowhere
unfoldable pub begun_row : Option ℕ → ℕ
begun_row (Some position) = 0
begun_row None = 64 * NOT_LISTED

-- the first n of a list are those of f
unfoldable pub First : (ℕ → ℕ) → ℕ → List ℕ → Type 0
First f n l = (i : ℕ) → i < n → slice_index l i ≡ f i

-- a row that came to a root has state 0; one that was refused has no hash
unfoldable pub closed_state : ℕ → ℕ
closed_state state = pick (nat_lt state 128) 0 (64 * number_of state + state % 64)

unfoldable pub closed_hash : ℕ → List ℕ → List ℕ
closed_hash state c = pick (nat_lt state 128) c (replicate 32 0)

unfoldable pub closed_hashes : ℕ → List ℕ → ℕ → List ℕ
closed_hashes state hashes i = pick (nat_lt state 128) hashes (set_hash hashes i (replicate 32 0))

-- the first n rows are closed, the others as they were
pub record Closed (n : ℕ) (states hashes states' hashes' : List ℕ) : Type 0 where
  pub state : (i : ℕ) → i < n → slice_index states' i ≡ closed_state (slice_index states i)
  pub hash : (i : ℕ) → i < n → hash_at hashes' (32 * i) ≡ closed_hash (slice_index states i) (hash_at hashes (32 * i))
  pub left : (i : ℕ) → n ≤ i → (slice_index states' i ≡ slice_index states i) × (hash_at hashes' (32 * i) ≡ hash_at hashes (32 * i))

-- the rows that are counted: all, or none if there is not a cost for each
unfoldable pub counted_of : ℕ → ℕ → ℕ
counted_of count costs = pick (nat_le count costs) count 0

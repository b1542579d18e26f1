-- Clients of a BUMP in rows, which were read and have not climbed yet.
use Rattle.std.specs.Prelude.{◌≡◌, ℕ, ◌*◌, ◌<◌, ◌≤◌, List, length, slice_index}
use Rattle.format.specs.Bytes.{hash_at}
use Rattle.spv.specs.Result.{Result}
use Rattle.spv.specs.Climb.{Siblings, ascend, end_of}
use Rattle.spv.specs.Prove.{Target}
use Rattle.climbs.specs.ClientsShapes.{pending}

-- what the climb of a row comes to
unfoldable pub climb_of : Siblings → ℕ → List ℕ → List ℕ → ℕ → Result (List ℕ)
climb_of σ h starts hashes i = end_of (hash_at hashes (32 * i)) (ascend σ 0 h (slice_index starts i) (hash_at hashes (32 * i)))

-- what is wanted once the first rows have climbed
unfoldable pub rows_say : Siblings → ℕ → List ℕ → List ℕ → ℕ → Result Target → Result Target
rows_say σ h starts hashes count x = pending (climb_of σ h starts hashes) count x

-- room for one row at least
pub record Lent (starts order states hashes : List ℕ) : Type 0 where
  pub some : 0 < length starts
  pub few : length starts ≤ 65536
  pub places : length order ≡ length starts
  pub each : length starts ≤ length states
  pub room : 32 * length starts ≤ length hashes

-- A list of leaves and two BUMPs merged, for C.
use Rattle.std.specs.Prelude.{ℕ, length, Option, Some, None}
use Rattle.encoding.specs.BumpBytes.{Content, bump_bytes}
use Rattle.merging.specs.Merging.{list_of}

-- 1 if there is such a leaf, whose place is then written
unfoldable pub found_of : Option ℕ → ℕ
found_of (Some p) = 1
found_of None = 0

unfoldable pub place_after : Option ℕ → ℕ → ℕ
place_after (Some p) old = p
place_after None old = old

-- how many bytes the merged path has, and how many leaves
unfoldable pub bytes_of : Content → ℕ
bytes_of m = length (bump_bytes m)

unfoldable pub leaves_of : Content → ℕ
leaves_of m = length (list_of (bump_bytes m))

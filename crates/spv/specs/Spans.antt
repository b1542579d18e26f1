-- The hashes of parts of an input, and four of them end to end.
use Rattle.std.specs.Prelude.{ℕ, ◌+◌, ◌*◌, ◌/◌, ◌≤◌, ◌<◌, ◌≡◌, List, length}
use Rattle.format.specs.Bytes.{set_hash, hash_at}
use Rattle.format.specs.Id.{span_hash}
use Rattle.lanes.specs.declared.Nodes.{Nodes}
use Rattle.spv.specs.declared.spans.Span.{Span}

unfoldable pub span_id : List ℕ → Span → List ℕ
span_id s x = span_hash s x.start x.end

abbrev pub Inside : List ℕ → Span → Type 0
Inside s x = (x.start ≤ x.end) × (x.end ≤ length s)

-- four hashes end to end, from the i-th on
unfoldable pub set_four : List ℕ → ℕ → Nodes → List ℕ
set_four l i four = set_hash (set_hash (set_hash (set_hash l i four.a) (i + 1) four.b) (i + 2) four.c) (i + 3) four.d

-- the hashes of the first n of some parts stand end to end, as far as there is room
unfoldable pub Hashed : List ℕ → (ℕ → Span) → ℕ → List ℕ → Type 0
Hashed s parts n l = (k : ℕ) → k < n → k < length l / 32 → hash_at l (32 * k) ≡ span_id s (parts k)

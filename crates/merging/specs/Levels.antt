-- All levels of two paths side by side, as the code of merging goes through them.
use Rattle.std.specs.Prelude.{◌≡◌, ◌||◌, List, [], ◌∷◌, ◌++◌, ℕ, zero, suc, ◌+◌, length}
use Rattle.encoding.specs.Digits.{varint_bytes}
use Rattle.encoding.specs.Encode.{encode_all}
use Rattle.encoding.specs.BumpBytes.{entry_bytes}
use Rattle.levels.specs.Standing.{nothing}
use Rattle.levels.specs.Places.{entries}
use Rattle.merging.specs.declared.joining.Tally.{Tally}
use Rattle.merging.specs.Merging.{Spot, clashes, kept_of, any_of, over_limit}
use Rattle.levels.specs.Ordered.{ordered_in, next_in}
use Rattle.merging.specs.Walk.{walk_spots}

-- the levels at two places
abbrev pub level_spots : List ℕ → List ℕ → ℕ → ℕ → List Spot
level_spots s t p q = walk_spots 2048 0 nothing nothing (entries s (ordered_in 1024 s p)) (entries t (ordered_in 1024 t q))

-- n levels from these places on
unfoldable pub walk_levels : List ℕ → List ℕ → ℕ → ℕ → ℕ → List (List Spot)
walk_levels s t zero p q = []
walk_levels s t (suc n) p q = level_spots s t p q ∷ walk_levels s t n (next_in 1024 s p) (next_in 1024 t q)

-- the bytes of a merged level
unfoldable pub level_text : List Spot → List ℕ
level_text l = varint_bytes (length l) ++ encode_all entry_bytes (kept_of l)

unfoldable pub total_of : List (List Spot) → ℕ
total_of [] = 0
total_of (l ∷ ls) = length l + total_of ls

-- a level over its limit, a clash, how many bytes and how many leaves
unfoldable pub tally_all : List (List Spot) → Tally
tally_all ls = record { over = any_of over_limit ls; clash = any_of clashes ls; bytes = length (encode_all level_text ls); leaves = total_of ls }

-- the tally with a level more
unfoldable pub Added : Tally → List Spot → Tally → Type 0
Added r l r' = (r'.over ≡ (r.over || over_limit l)) × (r'.clash ≡ (r.clash || clashes l)) × (r'.bytes ≡ r.bytes + length (level_text l)) × (r'.leaves ≡ r.leaves + length l)

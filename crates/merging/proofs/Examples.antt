-- Two paths merged, by computation, with a short string in place of a hash.
use mathlib.Core.Path.{◌≡◌, refl}
use mathlib.Core.List.{List, [], ◌∷◌}
use mathlib.Core.Bool.{true, false}
use Prim.Native.Nat.{ℕ}
use Rattle.encoding.specs.BumpBytes.{Content, Entry, plain, copy, client}
use Rattle.format.specs.Bytes.{same}
use Rattle.levels.specs.Standing.{standing_in, standing}
use Rattle.merging.specs.Merging.{has_hash, agree, left_of, unite, spots_from, spots, all_spots, is_clash, clashes, keep, kept_of, any_of, merged}

abbrev node : ℕ → ℕ → Entry
node o h = record { offset = o; carried = plain (h ∷ []) }

abbrev owned : ℕ → ℕ → Entry
owned o h = record { offset = o; carried = client (h ∷ []) }

abbrev copied : ℕ → Entry
copied o = record { offset = o; carried = copy }

abbrev path : ℕ → List (List Entry) → Content
path h ls = record { block = 1; height = h; levels = ls }

-- a client flag wins over a plain one; a hash over a copy whose left neighbour is written with it in either path
pub kept : (merged (path 1 ((owned 0 1 ∷ node 1 2 ∷ []) ∷ [])) (path 1 ((owned 1 2 ∷ node 0 1 ∷ []) ∷ [])) ≡ path 1 ((owned 0 1 ∷ owned 1 2 ∷ []) ∷ []))
    × (merged (path 2 ((owned 2 3 ∷ copied 3 ∷ []) ∷ (node 0 9 ∷ []) ∷ [])) (path 2 ((owned 0 1 ∷ node 1 2 ∷ node 3 3 ∷ []) ∷ (node 1 8 ∷ []) ∷ []))
    ≡ path 2 ((owned 0 1 ∷ node 1 2 ∷ owned 2 3 ∷ node 3 3 ∷ []) ∷ (node 0 9 ∷ node 1 8 ∷ []) ∷ []))
unfolding same standing_in standing has_hash agree left_of unite spots_from spots keep kept_of merged
kept = (refl, refl)

-- two hashes; a copy against a hash that its left neighbour is written with, in neither path, in the second
pub clash : (any_of clashes (all_spots (path 1 ((node 0 1 ∷ []) ∷ [])) (path 1 ((node 0 2 ∷ []) ∷ []))) ≡ true)
    × (any_of clashes (all_spots (path 1 ((copied 1 ∷ []) ∷ [])) (path 1 ((node 1 2 ∷ []) ∷ []))) ≡ true)
    × (any_of clashes (all_spots (path 1 ((copied 1 ∷ []) ∷ [])) (path 1 ((node 0 2 ∷ node 1 2 ∷ []) ∷ []))) ≡ false)
unfolding same standing_in standing has_hash agree left_of unite spots_from spots is_clash clashes any_of
clash = (refl, refl, refl)

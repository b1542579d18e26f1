-- The leaves of a level of a BUMP that was read before, by the places of their first bytes.
use Rattle.std.specs.Prelude.{List, [], ◌∷◌, map, ℕ, zero, suc, Option, Some, None}
use Rattle.format.specs.declared.level.Layout.{Layout}
use Rattle.format.specs.Parse.{otherwise}
use Rattle.format.specs.Field.{varint}
use Rattle.format.specs.declared.leaf.Kind.{Kind}
use Rattle.path.specs.Unchecked.{unchecked_leaf}
use Rattle.encoding.specs.BumpBytes.{Carried, copy, Entry, carried_of}
use Rattle.spv.specs.Marks.{after}

-- the places of n leaves as they are written, from the first one's on
unfoldable pub leaf_places : List ℕ → ℕ → ℕ → List ℕ
leaf_places s zero at = []
leaf_places s (suc n) at = otherwise (unchecked_leaf Layout.Bump s at) [] (λ _ next. at ∷ leaf_places s n next)

-- the places of a level's leaves, by the place of its count
unfoldable pub level_leaves : List ℕ → ℕ → List ℕ
level_leaves s at = otherwise (varint s at) [] (λ n first. leaf_places s n first)

-- where the next level starts
unfoldable pub next_level : List ℕ → ℕ → ℕ
next_level s at = otherwise (varint s at) at (λ n first. after Layout.Bump s n first)

-- the leaf at a place
unfoldable pub offset_at : List ℕ → ℕ → ℕ
offset_at s p = otherwise (varint s p) 0 (λ n _. n)

unfoldable pub carried_at : List ℕ → ℕ → Carried
carried_at s p = otherwise (unchecked_leaf Layout.Bump s p) copy (λ leaf _. carried_of s leaf.kind)

abbrev pub entry_at : List ℕ → ℕ → Entry
entry_at s p = record { offset = offset_at s p; carried = carried_at s p }

abbrev pub entries : List ℕ → List ℕ → List Entry
entries s = map (entry_at s)

-- what stands at the place found
unfoldable pub leaf_there : List ℕ → Option ℕ → Option Kind
leaf_there s (Some p) = otherwise (unchecked_leaf Layout.Bump s p) None (λ leaf _. Some leaf.kind)
leaf_there s None = None

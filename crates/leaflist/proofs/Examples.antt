-- A list of leaves, by computation.
use Rattle.std.proofs.Common.{Some, None}
use mathlib.Core.Path.{◌≡◌, refl}
use mathlib.Core.List.{List, [], ◌∷◌}
use Prim.Native.Nat.{ℕ}
use Rattle.format.specs.Parse.{each, many, whole}
use Rattle.format.specs.Field.{bytes, byte, varint}
use Rattle.format.specs.Level.{holds, offset_field, flag_field, kind_field, carried_field, leaf_field, level_field, level_of_turn}
use Rattle.format.specs.Bump.{block_field, height_up_to, bump_up_to}
use Rattle.path.specs.Unchecked.{unchecked_carried, unchecked_leaf}
use Rattle.spv.specs.Marks.{after}
use Rattle.spv.specs.Result.{accepted, refused, carrying}
use Rattle.levels.specs.Places.{offset_at, leaf_places, level_leaves, next_level}
use Rattle.levels.specs.Order.{insert, sorted}
use Rattle.leaflist.specs.LeafList.{row, list_from, words_of, fitting, building, words_in, find_row}

-- offsets 3 and 1 at level 0, both copies, and nothing at level 1
abbrev pub falling : List ℕ
falling = 0 ∷ 2 ∷ 2 ∷ 3 ∷ 1 ∷ 1 ∷ 1 ∷ 0 ∷ []

-- listed by offset with their places; room for one is too little; a path that is refused; what a search finds
pub listed : (building falling 2 ≡ accepted (row 0 1 5 ∷ row 0 3 3 ∷ []))
    × (words_in (building falling 2) (9 ∷ 9 ∷ 9 ∷ 9 ∷ 9 ∷ 9 ∷ 9 ∷ []) ≡ 0 ∷ 1 ∷ 5 ∷ 0 ∷ 3 ∷ 3 ∷ 9 ∷ [])
    × (building falling 1 ≡ refused (carrying 22 0))
    × (building (0 ∷ 0 ∷ []) 1 ≡ refused (carrying 4 1))
    × (find_row 0 3 (row 0 1 5 ∷ row 0 3 3 ∷ []) ≡ Some 3)
    × (find_row 1 3 (row 0 1 5 ∷ row 0 3 3 ∷ []) ≡ None)
unfolding varint byte bytes many each whole holds offset_field flag_field kind_field carried_field leaf_field level_field level_of_turn block_field height_up_to bump_up_to unchecked_carried unchecked_leaf after offset_at insert sorted leaf_places level_leaves next_level list_from words_of fitting building words_in find_row
listed = (refl, refl, refl, refl, refl, refl)

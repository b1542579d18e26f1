-- Two BUMPs side by side, by computation: the paper's kinds of difference one by one, room and refusals.
use mathlib.Core.Path.{◌≡◌, refl}
use mathlib.Core.List.{List, [], ◌∷◌, map}
use Prim.Native.Nat.{ℕ}
use Rattle.format.specs.Parse.{each, many, whole}
use Rattle.format.specs.Field.{bytes, byte, varint}
use Rattle.format.specs.Level.{holds, offset_field, flag_field, kind_field, carried_field, leaf_field, level_field, level_of_turn}
use Rattle.format.specs.Bump.{block_field, height_up_to, bump_up_to}
use Rattle.encoding.specs.BumpBytes.{Content, Entry, plain, copy, client, carried_of}
use Rattle.format.specs.Bytes.{same}
use Rattle.spv.specs.Result.{refused, carrying}
use Rattle.difference.specs.Differences.{first, second, both, Difference, block, height, leaf, equal, told, tell, offsets_from, levels_from, unless, higher, differences}
use Rattle.levels.specs.Standing.{standing_in, standing}
use Rattle.difference.specs.Listing.{side_word, what_of, level_of, offset_of, words_of, fitting, list_differences, words_in}

-- a leaf that holds a short string in place of a hash
abbrev node : ℕ → ℕ → Entry
node o h = record { offset = o; carried = plain (h ∷ []) }

abbrev owned : ℕ → ℕ → Entry
owned o h = record { offset = o; carried = client (h ∷ []) }

abbrev copied : ℕ → Entry
copied o = record { offset = o; carried = copy }

abbrev bump : ℕ → ℕ → List (List Entry) → Content
bump b h ls = record { block = b; height = h; levels = ls }

-- two contents, and their differences
pub record Case : Type 0 where
  pub one : Content
  pub other : Content
  pub comes : List Difference

abbrev pair : Content → Content → List Difference → Case
pair x y l = record { one = x; other = y; comes = l }

-- the same leaves in another order; the heights; flags alone; a hash; a copy against the hash that it stands for; leaves in one only, by level and offset
unfoldable pub cases : List Case
cases =
    pair (bump 7 1 ((owned 0 1 ∷ node 1 2 ∷ []) ∷ [])) (bump 7 1 ((node 1 2 ∷ owned 0 1 ∷ []) ∷ [])) [] ∷
    pair (bump 7 1 ([] ∷ [])) (bump 8 2 ([] ∷ [] ∷ [])) (block ∷ height ∷ []) ∷
    pair (bump 7 1 ((owned 0 1 ∷ []) ∷ [])) (bump 7 1 ((node 0 1 ∷ []) ∷ [])) (leaf 0 0 both ∷ []) ∷
    pair (bump 7 1 ((node 0 1 ∷ []) ∷ [])) (bump 7 1 ((node 0 2 ∷ []) ∷ [])) (leaf 0 0 both ∷ []) ∷
    pair (bump 7 1 ((node 0 1 ∷ node 1 1 ∷ []) ∷ [])) (bump 7 1 ((node 0 1 ∷ copied 1 ∷ []) ∷ [])) (leaf 0 1 both ∷ []) ∷
    pair (bump 7 2 ((node 3 1 ∷ node 0 1 ∷ []) ∷ (node 1 5 ∷ []) ∷ [])) (bump 7 2 ((node 2 1 ∷ []) ∷ (node 0 5 ∷ []) ∷ []))
    (leaf 0 0 first ∷ leaf 0 2 second ∷ leaf 0 3 first ∷ leaf 1 0 second ∷ leaf 1 1 first ∷ []) ∷
    []

pub compared : map (λ (c : Case). differences c.one c.other) cases ≡ map (λ (c : Case). c.comes) cases
unfolding cases standing_in standing equal same told tell offsets_from levels_from unless higher differences
compared = refl

-- inputs, and the words that are left in memory of seven: room for two entries
abbrev pub seven : List ℕ
seven = 9 ∷ 9 ∷ 9 ∷ 9 ∷ 9 ∷ 9 ∷ 9 ∷ []

unfoldable pub left : List ℕ → List ℕ → List ℕ
left a b = words_in (list_differences a b 2) seven

-- nothing to tell; two entries; three, for which there is no room; an input that is refused
pub listed : (left (0 ∷ 1 ∷ 0 ∷ []) (0 ∷ 1 ∷ 0 ∷ []) ≡ seven)
    × (left (0 ∷ 1 ∷ 0 ∷ []) (7 ∷ 1 ∷ 1 ∷ 1 ∷ 1 ∷ []) ≡ 1 ∷ 0 ∷ 0 ∷ 4 ∷ 0 ∷ 1 ∷ 9 ∷ [])
    × (list_differences (0 ∷ 1 ∷ 0 ∷ []) (7 ∷ 2 ∷ 1 ∷ 1 ∷ 1 ∷ 0 ∷ []) 2 ≡ refused (carrying 22 0))
    × (left (0 ∷ 1 ∷ 0 ∷ []) (7 ∷ 2 ∷ 1 ∷ 1 ∷ 1 ∷ 0 ∷ []) ≡ seven)
    × (list_differences (0 ∷ 0 ∷ []) [] 0 ≡ refused (carrying 4 1))
    × (list_differences (0 ∷ 1 ∷ 0 ∷ []) (0 ∷ []) 0 ≡ refused (carrying 2 1))
unfolding left varint byte bytes many each whole holds offset_field flag_field kind_field carried_field leaf_field level_field level_of_turn block_field height_up_to bump_up_to carried_of same standing_in standing equal told tell offsets_from levels_from unless higher differences side_word what_of level_of offset_of words_of fitting list_differences words_in
listed = (refl, refl, refl, refl, refl, refl)

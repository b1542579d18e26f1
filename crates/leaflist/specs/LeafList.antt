-- A list of a BUMP's leaves (02, Item 14): "a lent list of its leaves by level and offset, with the place of each one's first byte".
use Rattle.std.specs.Prelude.{List, [], ◌∷◌, ◌++◌, map, ◌&&◌, ℕ, zero, suc, ◌+◌, ◌*◌, ◌/◌, length, drop, leb, ltb, eqb, Option, Some, None, Result as Answer}
use Rattle.format.specs.Parse.{pick}
use Rattle.format.specs.Refusals.{NO_ROOM}
use Rattle.format.specs.Bump.{Bump, bump_whole}
use Rattle.spv.specs.declared.rejection.Rejection.{Rejection}
use Rattle.spv.specs.Result.{Result, accepted, refused, carrying, after_reading, answer_of}
use Rattle.levels.specs.Places.{offset_at, level_leaves, next_level}
use Rattle.levels.specs.Order.{sorted, locate}

-- a leaf by its level, its offset and the place of its first byte
pub record Row : Type 0 where
  pub level : ℕ
  pub offset : ℕ
  pub place : ℕ

abbrev pub row : ℕ → ℕ → ℕ → Row
row k o p = record { level = k; offset = o; place = p }

abbrev pub row_at : List ℕ → ℕ → ℕ → Row
row_at s k p = row k (offset_at s p) p

-- the n levels from k on, the first of them at a place: by level and offset, whatever their order in the bytes
unfoldable pub list_from : List ℕ → ℕ → ℕ → ℕ → List Row
list_from s zero k at = []
list_from s (suc n) k at = map (row_at s k) (sorted (offset_at s) (level_leaves s at)) ++ list_from s n (k + 1) (next_level s at)

abbrev pub leaf_list : List ℕ → Bump → List Row
leaf_list s b = list_from s b.height 0 b.start

-- ---- building

-- three words a leaf: level, offset, place
unfoldable pub words_of : List Row → List ℕ
words_of [] = []
words_of (r ∷ l) = r.level ∷ r.offset ∷ r.place ∷ words_of l

-- "22 exactly when .. list exceed the room lent"
unfoldable pub fitting : ℕ → List Row → Result (List Row)
fitting room l = pick (leb (length l) room) (accepted l) (refused (carrying NO_ROOM 0))

-- an input and room for so many leaves: the path's reading refusals, then 22
unfoldable pub building : List ℕ → ℕ → Result (List Row)
building s room = after_reading (bump_whole s) (λ b. fitting room (leaf_list s b))

-- room for leaves in memory of so many words
abbrev pub room_in : List ℕ → ℕ
room_in w = length w / 3

-- what the code's answer says
abbrev pub built_of : Result (List Row) → Answer ℕ Rejection
built_of = answer_of (λ l. length l)

-- the memory lent: the list, and what was there behind it; on a refusal it stays as it was
unfoldable pub words_in : Result (List Row) → List ℕ → List ℕ
words_in (accepted l) w = words_of l ++ drop (3 * length l) w
words_in (refused why) w = w

-- ---- searching

-- the place of level k, from that of the first on
unfoldable pub level_place : List ℕ → ℕ → ℕ → ℕ
level_place s zero at = at
level_place s (suc k) at = level_place s k (next_level s at)

-- the plain search, by the place of the leaf that it finds: the leaf of level k that has the offset; a level the path doesn't have gives none
unfoldable pub place_in : List ℕ → Bump → ℕ → ℕ → Option ℕ
place_in s b k o = pick (ltb k b.height) (locate (offset_at s) o (level_leaves s (level_place s k b.start))) None

-- the search over the list alone
unfoldable pub find_row : ℕ → ℕ → List Row → Option ℕ
find_row k o [] = None
find_row k o (r ∷ l) = pick (eqb r.level k && eqb r.offset o) (Some r.place) (find_row k o l)

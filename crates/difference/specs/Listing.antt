-- The list of differences as a call gives it: three words an entry, in the memory lent (02, Item 7, its first call).
use Rattle.std.specs.Prelude.{List, [], ◌∷◌, ◌++◌, ℕ, ◌*◌, ◌/◌, length, drop, leb, Result as Answer}
use Rattle.format.specs.Parse.{pick}
use Rattle.format.specs.Refusals.{NO_ROOM}
use Rattle.format.specs.Bump.{bump_whole}
use Rattle.encoding.specs.BumpBytes.{content_of}
use Rattle.spv.specs.declared.rejection.Rejection.{Rejection}
use Rattle.spv.specs.Result.{Result, accepted, refused, carrying, after_reading, answer_of}
use Rattle.difference.specs.Differences.{Side, first, second, both, Difference, block, height, leaf, differences}

-- the first word of an entry: 1 block height, 2 tree height, 3 a leaf in the first only, 4 in the second only, 5 in both
unfoldable pub side_word : Side → ℕ
side_word first = 3
side_word second = 4
side_word both = 5

unfoldable pub what_of : Difference → ℕ
what_of block = 1
what_of height = 2
what_of (leaf k o s) = side_word s

-- then its level and offset, 0 of a height
unfoldable pub level_of : Difference → ℕ
level_of block = 0
level_of height = 0
level_of (leaf k o s) = k

unfoldable pub offset_of : Difference → ℕ
offset_of block = 0
offset_of height = 0
offset_of (leaf k o s) = o

unfoldable pub words_of : List Difference → List ℕ
words_of [] = []
words_of (d ∷ l) = what_of d ∷ level_of d ∷ offset_of d ∷ words_of l

-- "22 exactly when the list doesn't fit"
unfoldable pub fitting : ℕ → List Difference → Result (List Difference)
fitting room l = pick (leb (length l) room) (accepted l) (refused (carrying NO_ROOM 0))

-- two inputs and room for so many entries: "the first path's, the second's", then 22
unfoldable pub list_differences : List ℕ → List ℕ → ℕ → Result (List Difference)
list_differences a b room =
    after_reading (bump_whole a) (λ x.
    after_reading (bump_whole b) (λ y.
    fitting room (differences (content_of a x) (content_of b y))))

-- room for entries in memory of so many words
abbrev pub room_in : List ℕ → ℕ
room_in w = length w / 3

-- what the code's answer says
abbrev pub listed_of : Result (List Difference) → Answer ℕ Rejection
listed_of = answer_of (λ l. length l)

-- the memory lent: the entries, and what was there behind them; on a refusal "nothing is written"
unfoldable pub words_in : Result (List Difference) → List ℕ → List ℕ
words_in (accepted l) w = words_of l ++ drop (3 * length l) w
words_in (refused why) w = w

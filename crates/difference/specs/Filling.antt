-- The lent memory as it is filled: its words, and how many entries are told so far. The code goes through the differences twice, first
-- only to count them.
use Rattle.std.specs.Prelude.{List, [], ◌∷◌, Bool, ℕ, ◌+◌, ◌*◌, ◌/◌, length, set, leb, Option, Some, None}
use Rattle.format.specs.Parse.{pick}
use Rattle.difference.specs.Differences.{first, second, both, Difference, Told, alike, differ}
use Rattle.difference.specs.Listing.{what_of, level_of, offset_of}
use Rattle.difference.specs.declared.listing.Differs.{Differs}
use Rattle.difference.specs.declared.listing.Differs.TheVariants.{Block, Height, InFirst, InSecond, InBoth}

pub record Filling : Type 0 where
  pub words : List ℕ
  pub told : ℕ

abbrev pub filling : List ℕ → ℕ → Filling
filling w n = record { words = w; told = n }

unfoldable pub store : List ℕ → ℕ → ℕ → ℕ → ℕ → List ℕ
store w n what level offset = set (set (set w (n * 3) what) (n * 3 + 1) level) (n * 3 + 2) offset

-- one entry more; past the room only that there are more is known
unfoldable pub put_on : Bool → Filling → ℕ → ℕ → ℕ → Filling
put_on write p what level offset =
    pick (leb (length p.words / 3) p.told) (filling p.words (length p.words / 3 + 1))
    (filling (pick write (store p.words p.told what level offset) p.words) (p.told + 1))

-- all entries of a list
unfoldable pub put_all : Bool → Filling → List Difference → Filling
put_all write p [] = p
put_all write p (d ∷ l) = put_all write (put_on write p (what_of d) (level_of d) (offset_of d)) l

-- what the code's enum says
abbrev pub word_of : Differs → ℕ
word_of Block = 1
word_of Height = 2
word_of InFirst = 3
word_of InSecond = 4
word_of InBoth = 5

-- what is told of a place, if anything
abbrev pub told_of : Told → Option Differs
told_of alike = None
told_of (differ first) = Some InFirst
told_of (differ second) = Some InSecond
told_of (differ both) = Some InBoth

abbrev pub put_place : Bool → Filling → Option Differs → ℕ → ℕ → Filling
put_place write p (Some what) level offset = put_on write p (word_of what) level offset
put_place write p None level offset = p

abbrev pub put_unless : Bool → Bool → Filling → ℕ → Filling
put_unless same write p what = pick same p (put_on write p what 0 0)

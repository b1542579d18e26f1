-- Leaves and levels of BUMP (document 003) and CMP (document 001); 01, "Layouts".
use Rattle.std.specs.Prelude.{List, [], ◌∷◌, ◌++◌, Bool, false, not, ◌&&◌, ◌||◌, ℕ, ◌+◌, ◌-◌, ◌^◌, ◌%◌, length, ltb, leb, eqb}
use Rattle.format.specs.declared.level.Layout.{Layout}
use Rattle.format.specs.declared.leaf.Leaf.{Leaf}
use Rattle.format.specs.declared.leaf.Kind.{Kind}
use Rattle.format.specs.declared.leaf.Kind.TheVariants.{Plain, Copy, Client}
use Rattle.format.specs.Parse.{Reader, pick, pure, ◌>>=◌, given, ◌passing◌else◌, many}
use Rattle.format.specs.Field.{bytes, byte, varint}
use Rattle.format.specs.Refusals.{OVER_LIMIT, BAD_OFFSET, BAD_FLAG, REPEATED, MAX_LEAVES}

-- x stands in the list
unfoldable pub holds : ℕ → List ℕ → Bool
holds x [] = false
holds x (y ∷ l) = eqb x y || holds x l

-- an offset below the limit, and not one of those seen
unfoldable pub offset_field : ℕ → List ℕ → Reader ℕ
offset_field limit seen =
    (varint passing (λ o. ltb o limit) else BAD_OFFSET) passing (λ o. not (holds o seen)) else REPEATED

-- 02 stands only at level 0, 01 only at an odd offset
abbrev pub flag_allowed : ℕ → ℕ → ℕ → Bool
flag_allowed level offset flag =
    eqb flag 0 || (eqb flag 1 && eqb (offset % 2) 1) || (eqb flag 2 && eqb level 0)

unfoldable pub flag_field : ℕ → ℕ → Reader ℕ
flag_field level offset = byte passing (λ f. flag_allowed level offset f) else BAD_FLAG

-- 00 is a node, 01 a copy of the working hash, 02 a client's id; a node and an id are 32 bytes
unfoldable pub kind_field : ℕ → Reader Kind
kind_field flag =
    pick (eqb flag 0) (given Plain (bytes 32))
    (pick (eqb flag 1) (pure Copy) (given Client (bytes 32)))

-- what follows the offset: in a BUMP a flags byte, and 32 bytes unless flags are 01; in a CMP 32 bytes
unfoldable pub carried_field : Layout → ℕ → ℕ → Reader Kind
carried_field Layout.Bump level offset = do
  flag ← flag_field level offset
  kind_field flag
carried_field Layout.Cmp level offset = given Plain (bytes 32)

-- a leaf of a level whose offsets are below the limit and that has had the offsets seen
unfoldable pub leaf_field : Layout → ℕ → ℕ → List ℕ → Reader Leaf
leaf_field layout limit level seen = do
  offset ← offset_field limit seen
  kind ← carried_field layout level offset
  pure (record { offset = offset; kind = kind })

abbrev pub and_offset : List ℕ → Leaf → List ℕ
and_offset seen leaf = seen ++ (leaf.offset ∷ [])

-- no level holds one offset twice; leaves come in any order
abbrev pub leaf_fields : Layout → ℕ → ℕ → ℕ → Reader (List Leaf)
leaf_fields layout limit level count = many (leaf_field layout limit level) and_offset count []

unfoldable pub level_field : Layout → ℕ → ℕ → Reader (List Leaf)
level_field layout limit level = do
  count ← varint passing (λ n. leb n MAX_LEAVES) else OVER_LIMIT
  leaf_fields layout limit level count

-- at level k of h an offset is below 2 ^ (h - k)
abbrev pub level_at : Layout → ℕ → ℕ → Reader (List Leaf)
level_at layout height level = level_field layout (2 ^ (height - level)) level

-- the level that is written in turn i: a BUMP's go up from 0, a CMP's down to 0
unfoldable pub level_of_turn : Layout → ℕ → ℕ → ℕ
level_of_turn Layout.Bump height i = i
level_of_turn Layout.Cmp height i = height - (i + 1)

abbrev pub level_in_turn : Layout → ℕ → ℕ → Reader (List Leaf)
level_in_turn layout height i = level_at layout height (level_of_turn layout height i)

abbrev pub next_turn : ℕ → List Leaf → ℕ
next_turn i _ = i + 1

-- the levels of a tree, as they are written
abbrev pub level_fields : Layout → ℕ → Reader (List (List Leaf))
level_fields layout height = many (level_in_turn layout height) next_turn height 0

-- how many leaves a tree's levels have
unfoldable pub total : List (List Leaf) → ℕ
total [] = 0
total (l ∷ ls) = length l + total ls

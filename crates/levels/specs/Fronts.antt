-- Two levels in the order of their offsets, from the least offset up: what stands at the front.
use Rattle.std.specs.Prelude.{List, [], ◌∷◌, Bool, ◌&&◌, ℕ, ◌+◌, length, get_or, eqb, ltb, Option, Some, None}
use Rattle.format.specs.declared.leaf.Kind.{Kind}
use Rattle.format.specs.declared.leaf.Kind.TheVariants.{Plain, Copy, Client}
use Rattle.format.specs.declared.level.Layout.{Layout}
use Rattle.format.specs.Parse.{pick, otherwise}
use Rattle.path.specs.Unchecked.{unchecked_leaf}
use Rattle.encoding.specs.BumpBytes.{Entry, carried_of}
use Rattle.levels.specs.Standing.{Standing, stands, nothing}
use Rattle.levels.specs.Places.{offset_at}

-- the offset of the first
unfoldable pub next_of : List Entry → Option ℕ
next_of [] = None
next_of (e ∷ l) = Some e.offset

unfoldable pub lesser : Option ℕ → Option ℕ → Option ℕ
lesser None b = b
lesser (Some x) None = Some x
lesser (Some x) (Some y) = Some (pick (ltb y x) y x)

-- what stands at the offset, if it is that of the first
unfoldable pub front : ℕ → List Entry → Standing
front o [] = nothing
front o (e ∷ l) = pick (eqb e.offset o) (stands e.carried) nothing

-- those behind the offset
unfoldable pub past : ℕ → List Entry → List Entry
past o [] = []
past o (e ∷ l) = pick (eqb e.offset o) l (e ∷ l)

-- a leaf's flags, and the place of its hash
unfoldable pub flags_of : Kind → ℕ
flags_of (Plain p) = 0
flags_of Copy = 1
flags_of (Client p) = 2

unfoldable pub place_of : Kind → Option ℕ
place_of (Plain p) = Some p
place_of Copy = None
place_of (Client p) = Some p

-- what the code's answer says
unfoldable pub standing_of : List ℕ → Option Kind → Standing
standing_of s (Some kind) = stands (carried_of s kind)
standing_of s None = nothing

-- ---- the same by places

-- the leaf at a place, a copy where none is read
unfoldable pub kind_at : List ℕ → ℕ → Kind
kind_at s p = otherwise (unchecked_leaf Layout.Bump s p) Copy (λ leaf _. leaf.kind)

-- whether there is a place at the index, and its leaf has the offset
unfoldable pub has_offset : List ℕ → List ℕ → ℕ → ℕ → Bool
has_offset s places i o = ltb i (length places) && eqb (offset_at s (get_or places i 0)) o

-- what stands at the offset, if the leaf at the index has it
unfoldable pub spot_of : List ℕ → List ℕ → ℕ → ℕ → Option Kind
spot_of s places i o = pick (has_offset s places i o) (Some (kind_at s (get_or places i 0))) None

-- the index behind the offset
unfoldable pub index_past : List ℕ → List ℕ → ℕ → ℕ → ℕ
index_past s places i o = pick (has_offset s places i o) (i + 1) i

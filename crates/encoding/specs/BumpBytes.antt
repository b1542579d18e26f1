-- A BUMP as its writer has it: its content with the hashes themselves, and the bytes that the layout gives it (document 003; 01, "Layouts").
use Rattle.std.specs.Prelude.{◌≡◌, List, [], ◌∷◌, ◌++◌, map, false, ℕ, ◌+◌, ◌-◌, ◌^◌, ◌%◌, ◌≤◌, ◌<◌, length}
use Rattle.format.specs.declared.leaf.Kind.{Kind}
use Rattle.format.specs.declared.leaf.Kind.TheVariants.{Plain, Copy, Client}
use Rattle.format.specs.declared.leaf.Leaf.{Leaf}
use Rattle.format.specs.Level.{holds}
use Rattle.format.specs.Bytes.{hash_at}
use Rattle.format.specs.Bump.{Bump}
use Rattle.format.specs.Refusals.{MAX_BLOCK, MAX_HEIGHT, MAX_LEAVES}
use Rattle.encoding.specs.Encode.{AllBytes, encode_all, Fits}
use Rattle.encoding.specs.Digits.{varint_bytes}

-- what a leaf carries: a node, a copy of the working hash, a client's id
pub data Carried : Type 0 where
  plain : List ℕ → Carried
  copy : Carried
  client : List ℕ → Carried

pub record Entry : Type 0 where
  pub offset : ℕ
  pub carried : Carried

-- block height, tree height, and the levels 0 to height - 1
pub record Content : Type 0 where
  pub block : ℕ
  pub height : ℕ
  pub levels : List (List Entry)

-- ---- its bytes

-- a flags byte, and 32 bytes unless flags are 01
unfoldable pub carried_bytes : Carried → List ℕ
carried_bytes (plain h) = 0 ∷ h
carried_bytes copy = 1 ∷ []
carried_bytes (client h) = 2 ∷ h

-- an offset VarInt, a flags byte, and 32 bytes unless flags are 01
unfoldable pub entry_bytes : Entry → List ℕ
entry_bytes e = varint_bytes e.offset ++ carried_bytes e.carried

-- a leaf count, then the leaves
unfoldable pub level_bytes : List Entry → List ℕ
level_bytes l = varint_bytes (length l) ++ encode_all entry_bytes l

-- block height VarInt, tree height one byte, then the levels going up
unfoldable pub bump_bytes : Content → List ℕ
bump_bytes c = varint_bytes c.block ++ (c.height ∷ encode_all level_bytes c.levels)

-- ---- what a reading says: the places it gives, with the 32 bytes that stand there

unfoldable pub carried_of : List ℕ → Kind → Carried
carried_of s (Plain p) = plain (hash_at s p)
carried_of s Copy = copy
carried_of s (Client p) = client (hash_at s p)

abbrev pub entry_of : List ℕ → Leaf → Entry
entry_of s leaf = record { offset = leaf.offset; carried = carried_of s leaf.kind }

abbrev pub levels_of : List ℕ → List (List Leaf) → List (List Entry)
levels_of s = map (map (entry_of s))

abbrev pub content_of : List ℕ → Bump → Content
content_of s b = record { block = b.block; height = b.height; levels = levels_of s b.levels }

-- ---- the limits of the layout

abbrev pub HashFit : List ℕ → Type 0
HashFit h = (length h ≡ 32) × AllBytes h

-- 02 stands only at level 0, 01 only at an odd offset
unfoldable pub CarriedFit : ℕ → ℕ → Carried → Type 0
CarriedFit level offset (plain h) = HashFit h
CarriedFit level offset copy = offset % 2 ≡ 1
CarriedFit level offset (client h) = (level ≡ 0) × HashFit h

-- an offset below the limit, and none of those before it
abbrev pub EntryFit : ℕ → ℕ → List ℕ → Entry → Type 0
EntryFit limit level seen e = (e.offset < limit) × (holds e.offset seen ≡ false) × CarriedFit level e.offset e.carried

abbrev pub and_entry : List ℕ → Entry → List ℕ
and_entry seen e = seen ++ (e.offset ∷ [])

abbrev pub LevelFit : ℕ → ℕ → List Entry → Type 0
LevelFit height level l = (length l ≤ MAX_LEAVES) × Fits (EntryFit (2 ^ (height - level)) level) and_entry [] l

abbrev pub next_level : ℕ → List Entry → ℕ
next_level i _ = i + 1

-- a content that the layout can have
pub record ContentFit (c : Content) : Type 0 where
  pub block_fits : c.block ≤ MAX_BLOCK
  pub some : 1 ≤ c.height
  pub low : c.height ≤ MAX_HEIGHT
  pub all : length c.levels ≡ c.height
  pub levels_fit : Fits (LevelFit c.height) next_level 0 c.levels

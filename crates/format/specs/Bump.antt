-- BUMP (document 003; 01, "Layouts").
use Rattle.std.specs.Prelude.{List, ◌&&◌, ℕ, leb}
use Rattle.format.specs.declared.level.Layout.{Layout}
use Rattle.format.specs.declared.leaf.Leaf.{Leaf}
use Rattle.format.specs.declared.bump.BumpHead.{BumpHead}
use Rattle.format.specs.Parse.{Parse, Reader, pure, here, ◌>>=◌, ◌passing◌else◌, whole}
use Rattle.format.specs.Field.{byte, varint}
use Rattle.format.specs.Level.{level_fields, total}
use Rattle.format.specs.Refusals.{BAD_HEIGHT, OVER_LIMIT, MAX_BLOCK, MAX_HEIGHT}

-- block height and tree height, the place where the levels start, and the levels 0 to height - 1
pub record Bump : Type 0 where
  pub block : ℕ
  pub height : ℕ
  pub start : ℕ
  pub levels : List (List Leaf)

unfoldable pub block_field : Reader ℕ
block_field = varint passing (λ b. leb b MAX_BLOCK) else OVER_LIMIT

-- at most so many layers; `height_field` and `bump_field` have today's limit
unfoldable pub height_up_to : ℕ → Reader ℕ
height_up_to most = byte passing (λ h. leb 1 h && leb h most) else BAD_HEIGHT

unfoldable pub bump_up_to : ℕ → Reader Bump
bump_up_to most = do
  block ← block_field
  height ← height_up_to most
  start ← here
  levels ← level_fields Layout.Bump height
  pure (record { block = block; height = height; start = start; levels = levels })

abbrev pub height_field : Reader ℕ
height_field = height_up_to MAX_HEIGHT

abbrev pub bump_field : Reader Bump
bump_field = bump_up_to MAX_HEIGHT

-- an input that is one whole BUMP
abbrev pub bump_whole : List ℕ → Parse Bump
bump_whole s = whole bump_field s

-- what the answer of a reading holds of a BUMP
abbrev pub head_of : Bump → BumpHead
head_of b = record { block = b.block; height = b.height; leaves = total b.levels; levels = record { at = b.start } }

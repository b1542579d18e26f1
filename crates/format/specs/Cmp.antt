-- CMP, the compound path (document 001; 01, "Layouts").
use Rattle.std.specs.Prelude.{List, reverse, ℕ, ◌+◌, leb}
use Rattle.format.specs.declared.level.Layout.{Layout}
use Rattle.format.specs.declared.leaf.Leaf.{Leaf}
use Rattle.format.specs.declared.cmp.CmpHead.{CmpHead}
use Rattle.format.specs.Parse.{Parse, Reader, pure, here, ◌>>=◌, ◌passing◌else◌, whole}
use Rattle.format.specs.Field.{byte}
use Rattle.format.specs.Level.{level_fields, total}
use Rattle.format.specs.Refusals.{BAD_HEIGHT, MAX_HEIGHT}

-- its m + 1 layers, the place where the levels start, and the levels from 0 up, though they are written from m down
pub record Cmp : Type 0 where
  pub height : ℕ
  pub start : ℕ
  pub levels : List (List Leaf)

-- the byte m, which stands for m + 1 layers, at most so many; `top_field` and `cmp_field` have today's limit
unfoldable pub top_up_to : ℕ → Reader ℕ
top_up_to most = byte passing (λ m. leb (m + 1) most) else BAD_HEIGHT

unfoldable pub cmp_up_to : ℕ → Reader Cmp
cmp_up_to most = do
  m ← top_up_to most
  start ← here
  levels ← level_fields Layout.Cmp (m + 1)
  pure (record { height = m + 1; start = start; levels = reverse levels })

abbrev pub top_field : Reader ℕ
top_field = top_up_to MAX_HEIGHT

abbrev pub cmp_field : Reader Cmp
cmp_field = cmp_up_to MAX_HEIGHT

-- an input that is one whole CMP
abbrev pub cmp_whole : List ℕ → Parse Cmp
cmp_whole s = whole cmp_field s

-- what the answer of a reading holds of a CMP
abbrev pub cmp_head_of : Cmp → CmpHead
cmp_head_of p = record { height = p.height; leaves = total p.levels; levels = record { at = p.start } }

-- A BUMP that was read is read again without its tests, leaf by leaf, and each leaf's line is written; `levels-walked` (`WalkLaws`) says that
-- this writes the lines of the levels that were read.
use Rattle.std.specs.Prelude.{List, ℕ, zero, suc, ◌+◌}
use Rattle.format.specs.declared.level.Layout.{Layout}
use Rattle.format.specs.Parse.{otherwise}
use Rattle.format.specs.Field.{varint}
use Rattle.path.specs.Unchecked.{unchecked_leaf}
use Rattle.encoding.specs.Buffer.{Buffer, write_on}
use Rattle.listing.specs.Listing.{leaf_line, level_line}

-- what was written, and the place where reading goes on
pub record Walk : Type 0 where
  pub buffer : Buffer
  pub next : ℕ

abbrev pub walk : Buffer → ℕ → Walk
walk p next = record { buffer = p; next = next }

-- n leaves from a place, as far as they can be read
unfoldable pub walk_leaves : List ℕ → ℕ → ℕ → Buffer → Walk
walk_leaves s zero at p = walk p at
walk_leaves s (suc n) at p = otherwise (unchecked_leaf Layout.Bump s at) (walk p at) (λ leaf next. walk_leaves s n next (write_on p (leaf_line s leaf)))

unfoldable pub walk_level : List ℕ → ℕ → ℕ → Buffer → Walk
walk_level s level at p = otherwise (varint s at) (walk p at) (λ n next. walk_leaves s n next (write_on p (level_line level n)))

-- n levels from a place, the first of this number
unfoldable pub walk_levels : List ℕ → ℕ → ℕ → ℕ → Buffer → Walk
walk_levels s zero level at p = walk p at
walk_levels s (suc n) level at p = walk_levels s n (level + 1) (walk_level s level at p).next (walk_level s level at p).buffer

-- The differences of a level as the code tells them: of two lists in the order of their offsets, from the least offset up.
use Rattle.std.specs.Prelude.{List, [], Bool, ℕ, zero, suc, ◌+◌, eqb, leb, Option, Some, None}
use Rattle.format.specs.Parse.{pick}
use Rattle.format.specs.declared.bump.BumpHead.{BumpHead}
use Rattle.format.specs.Refusals.{MAX_LEAVES}
use Rattle.encoding.specs.BumpBytes.{Entry}
use Rattle.difference.specs.Differences.{Difference, told, tell, higher}
use Rattle.difference.specs.Filling.{Filling, put_all, put_unless}
use Rattle.levels.specs.Ordered.{ordered_in, next_in}
use Rattle.levels.specs.Fronts.{next_of, lesser, front, past}
use Rattle.levels.specs.Places.{entries}

abbrev pub on_next : Option ℕ → (ℕ → List Difference) → List Difference
on_next None f = []
on_next (Some o) f = f o

-- at most n offsets
unfoldable pub merged : ℕ → ℕ → List Entry → List Entry → List Difference
merged zero k x y = []
merged (suc n) k x y = on_next (lesser (next_of x) (next_of y)) (λ o. tell k o (told (front o x) (front o y)) (merged n k (past o x) (past o y)))

-- what two levels have at most (01, "Sizes": 1,024 leaves a level)
abbrev pub OFFSETS : ℕ
OFFSETS = 2048

-- places in the order of their offsets, and the place after the last leaf
pub record Gathering : Type 0 where
  pub places : List ℕ
  pub next : ℕ

abbrev pub gathering : List ℕ → ℕ → Gathering
gathering l next = record { places = l; next = next }

-- level k of a tree of this height, at a place; the levels above a tree are empty
unfoldable pub gather_level : ℕ → List ℕ → ℕ → ℕ → ℕ → Gathering
gather_level room s height k at = pick (leb height k) (gathering [] at) (gathering (ordered_in room s at) (next_in room s at))

-- n levels from k, which start at these places in the first and in the second; the arrays have room for so many places
unfoldable pub walk : Bool → List ℕ → ℕ → ℕ → List ℕ → ℕ → ℕ → ℕ → ℕ → ℕ → ℕ → Filling → Filling
walk write s hx rx t hy ry zero k c d p = p
walk write s hx rx t hy ry (suc n) k c d p =
    walk write s hx rx t hy ry n (k + 1) (gather_level rx s hx k c).next (gather_level ry t hy k d).next
    (put_all write p (merged OFFSETS k (entries s (gather_level rx s hx k c).places) (entries t (gather_level ry t hy k d).places)))

-- the two heights, then the levels
unfoldable pub walk_all : Bool → List ℕ → BumpHead → List ℕ → BumpHead → Filling → Filling
walk_all write s x t y p =
    walk write s x.height MAX_LEAVES t y.height MAX_LEAVES (higher x.height y.height) 0 x.levels.at y.levels.at
    (put_unless (eqb x.height y.height) write (put_unless (eqb x.block y.block) write p 1) 2)

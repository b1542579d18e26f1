-- The list as the code makes it and searches it: levels in order as far as an array has room, rows stored one behind the other.
use Rattle.std.specs.Prelude.{List, [], ◌∷◌, ◌++◌, map, ℕ, zero, suc, ◌+◌, ◌*◌, ◌/◌, length, set, leb}
use Rattle.format.specs.Parse.{pick}
use Rattle.std.specs.declared.cmp.Ordering.{Ordering}
use Rattle.std.specs.Ordering.{nat_cmp, ordering_then}
use Rattle.leaflist.specs.LeafList.{Row, row_at}
use Rattle.levels.specs.Ordered.{next_in, ordered_in}

-- n levels from k on
unfoldable pub listed_in : ℕ → List ℕ → ℕ → ℕ → ℕ → List Row
listed_in room s zero k at = []
listed_in room s (suc n) k at = map (row_at s k) (ordered_in room s at) ++ listed_in room s n (k + 1) (next_in room s at)

-- the lent memory as it is filled: its words, and how many rows stand in it
pub record Filling : Type 0 where
  pub words : List ℕ
  pub rows : ℕ

abbrev pub filling : List ℕ → ℕ → Filling
filling w n = record { words = w; rows = n }

unfoldable pub store : List ℕ → ℕ → ℕ → ℕ → ℕ → List ℕ
store w n level offset place = set (set (set w (n * 3) level) (n * 3 + 1) offset) (n * 3 + 2) place

-- a row more, if there is room
unfoldable pub put_row : Filling → Row → Filling
put_row p r = pick (leb (length p.words / 3) p.rows) p (filling (store p.words p.rows r.level r.offset r.place) (p.rows + 1))

unfoldable pub put_rows : Filling → List Row → Filling
put_rows p [] = p
put_rows p (r ∷ l) = put_rows (put_row p r) l

-- where a row of level k and offset o stands to what is looked for
abbrev pub side_of : ℕ → ℕ → ℕ → ℕ → Ordering
side_of k o j p = ordering_then (nat_cmp k j) (nat_cmp o p)

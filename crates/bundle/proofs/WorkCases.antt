-- Examples of the count of joins, by computation: a sibling above what is written (02, Item 11).
use Prim.Native.Nat.{ℕ}
use mathlib.Core.Path.{◌≡◌, refl}
use mathlib.Core.List.{List, [], ◌∷◌}
use Rattle.format.specs.declared.leaf.Leaf.{Leaf}
use Rattle.format.specs.declared.leaf.Kind.TheVariants.{Plain, Copy}
use Rattle.path.specs.Search.{lookup}
use Rattle.spv.specs.Climb.{Siblings, sibling_position, step, joined}
use Rattle.spv.specs.Values.{has_value, value_by, join_both, join_of, value_of, worked_out}
use Rattle.spv.specs.Joins.{joins_by}
use Rattle.spv.specs.Siblings.{written, sibling, written_by, find_in}
use Rattle.climbs.specs.Count.{join_cost, cost_of, climb_cost}
use Rattle.bundle.specs.Work.{id_work}

abbrev at : ℕ → Leaf
at o = record { offset = o; kind = Plain 0 }

abbrev copy_at : ℕ → Leaf
copy_at o = record { offset = o; kind = Copy }

-- of three layers: the two lowest siblings of position 0 are written, and of what lies under the third, (2, 1), so many
abbrev tree : List Leaf → Siblings
tree l = written_by [] (find_in ((at 0 ∷ at 1 ∷ l) ∷ (at 1 ∷ []) ∷ [] ∷ []))

-- a climb from an id at position 0
abbrev climb : List Leaf → ℕ
climb l = climb_cost (tree l) 0 3 0 []

-- all four leaves: three joins for the sibling; a copy costs none, and its left neighbour once; half of them: it can't be had, and nothing is counted for it
pub cases : (climb (at 4 ∷ at 5 ∷ at 6 ∷ at 7 ∷ []) ≡ 6) × (climb (at 4 ∷ at 5 ∷ at 6 ∷ copy_at 7 ∷ []) ≡ 6) × (climb (at 4 ∷ at 5 ∷ []) ≡ 2) × (climb [] ≡ 2)
    × (cost_of (tree (at 4 ∷ at 5 ∷ [])) 1 2 ≡ 1) × (cost_of (tree (at 4 ∷ at 5 ∷ [])) 2 1 ≡ 0) × (cost_of (tree (at 4 ∷ at 5 ∷ [])) 0 4 ≡ 0)
unfolding join_cost cost_of climb_cost joins_by has_value value_by join_both join_of value_of worked_out step joined sibling_position lookup sibling written
cases = (refl, refl, refl, refl, refl, refl, refl)

-- an id of 60 bytes takes 3, of 192 bytes 5, of none 2; two hashes side by side 3
pub ids : (id_work 60 ≡ 3) × (id_work 192 ≡ 5) × (id_work 0 ≡ 2) × (id_work 64 ≡ 3)
unfolding id_work
ids = (refl, refl, refl, refl)

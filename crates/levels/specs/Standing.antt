-- What stands in a BUMP at a level and offset.
use Rattle.std.specs.Prelude.{List, [], ◌∷◌, ℕ, eqb, get_or}
use Rattle.format.specs.Parse.{pick}
use Rattle.encoding.specs.BumpBytes.{Carried, Entry, Content}

-- what stands at a place
pub data Standing : Type 0 where
  stands : Carried → Standing
  nothing : Standing

-- what stands at an offset of a level
unfoldable pub standing_in : ℕ → List Entry → Standing
standing_in o [] = nothing
standing_in o (e ∷ l) = pick (eqb e.offset o) (stands e.carried) (standing_in o l)

-- what stands at a level and offset
unfoldable pub standing : Content → ℕ → ℕ → Standing
standing x k o = standing_in o (get_or x.levels k [])

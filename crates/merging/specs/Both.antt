-- The merged path's siblings before any byte of it is written: what two paths have written between them, or what is worked out of it.
use Rattle.std.specs.Prelude.{ℕ, List}
use Rattle.spv.specs.Climb.{Siblings}
use Rattle.spv.specs.Values.{worked_out}
use Rattle.climbs.specs.LookUp.{looked_up}

-- by the places of their levels
abbrev pub both_siblings : List ℕ → List ℕ → List ℕ → List ℕ → Siblings
both_siblings s x t y = worked_out (looked_up s x t y)

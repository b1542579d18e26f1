-- Whether all clients of a level climb to one root by what two paths of one block have written between them: the check of a merged path before a byte of
-- it is written (02, Item 14).
use Rattle.std.specs.Prelude.{ℕ, Bool, true, false, ◌&&◌, List, nat_le}
use Rattle.format.specs.Parse.{otherwise}
use Rattle.format.specs.Field.{varint}
use Rattle.format.specs.Refusals.{NOT_LISTED}
use Rattle.path.specs.declared.path.Path.{Path}
use Rattle.path.specs.Path.{LAYERS}
use Rattle.spv.specs.Result.{Result, accepted, refused, carrying}
use Rattle.spv.specs.Climb.{Siblings}
use Rattle.spv.specs.Prove.{bound}
use Rattle.spv.specs.Values.{worked_out}
use Rattle.climbs.specs.ClientsShapes.{clients_in}
use Rattle.climbs.specs.LookUp.{looked_up}
use Rattle.climbs.specs.Proofs.{is_bump}

unfoldable pub is_accepted : Result (List ℕ) → Bool
is_accepted (accepted r) = true
is_accepted (refused why) = false

-- each client of the level at a place of s climbs to r
unfoldable pub level_reaches : Siblings → ℕ → List ℕ → List ℕ → ℕ → Bool
level_reaches σ h s r at = is_accepted (otherwise (varint s at) (refused (carrying NOT_LISTED 0)) (λ n next. clients_in σ h s n next (bound r)))

-- by the levels of two BUMPs, over the layers of the first
unfoldable pub both_reach : List ℕ → ℕ → List ℕ → Path → List ℕ → Path → List ℕ → Bool
both_reach u at s first t second r =
    is_bump first.form && nat_le first.layers LAYERS && level_reaches (worked_out (looked_up s first.at t second.at)) first.layers u r at

use Rattle.std.proofs.Common.{◌≡◌, Option, Some, None, Err, List, ℕ, refl, ap, ◌∙◌}
use Rattle.std.specs.Option.{ok_or}
use Rattle.format.specs.Refusals.{NOT_LISTED}
use Rattle.spv.specs.Result.{carrying}
use Rattle.spv.specs.Clients.{closing}
use Rattle.spv.specs.Shapes.{bound_to}
use Rattle.spv.specs.declared.rejection.Rejection.{Rejection}
use Rattle.climbs.specs.ClientsShapes.{checked_of}
use Rattle.climbs.proofs.want.close.Goals as goal

closed : (wanted : Option (List ℕ)) (why : Rejection) → why ≡ carrying NOT_LISTED 0 → ok_or wanted why ≡ checked_of (closing (bound_to wanted))
unfolding closing
closed (Some root) why e = refl
closed None why e = ap Err e

pub returns : goal.returns
returns c = c.ok_or.ensures.value ∙ closed _ _ c.reject_for.ensures

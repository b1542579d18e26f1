use Rattle.std.proofs.Common.{◌∙◌, refl, arith}
use Rattle.spv.proofs.ShapesLaws.{told-root, told-stop}
use Rattle.spv.proofs.DepthLaws.{low-layer, deeper-stop, deeper-root}
use Rattle.spv.proofs.depth.meet_deeper.Goals as goal

pub meet_beside-requires : goal.meet_beside-requires
meet_beside-requires c = (omega (arith, c.requires), low-layer _ _ _ (omega arith) c.halve.ensures)

pub returns-in_default : goal.returns-in_default
returns-in_default c = rw c.reject_for.ensures (deeper-stop _ _ _ _ _ _ _ _ _ c.requires refl _ (told-stop _ _ c.in_default.ensures))

pub returns : goal.returns
returns c = c.meet_beside.ensures ∙ deeper-root _ _ _ _ _ _ _ _ _ c.requires refl _ _ (told-root _ _ c.in-Ok.ensures) c.halve.ensures

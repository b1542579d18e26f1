use Rattle.spv.proofs.DepthLaws.{pair_found, pair-none}
use Rattle.spv.proofs.depth.meet_above.Goals as goal

pub returns-in-Some : goal.returns-in-Some
returns-in-Some c = pair_found _ _ c.in-Some.ensures

pub returns-in-None : goal.returns-in-None
returns-in-None c = rw c.reject_for.ensures (pair-none _ c.in-None.ensures)

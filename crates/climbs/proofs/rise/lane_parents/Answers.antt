use Rattle.lanes.specs.Lanes as L
use Rattle.climbs.proofs.rise.lane_parents.Goals as goal

pub returns : goal.returns
unfolding L.node
returns c = c.join4.ensures

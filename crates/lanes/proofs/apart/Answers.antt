use Rattle.lanes.specs.Lanes.{lane, word_in, in_lane}
use Rattle.lanes.proofs.apart.Goals as goal

pub returns : goal.returns
unfolding lane word_in in_lane
returns c = (c.value.ensures, c.value-2.ensures, c.value-3.ensures, c.value-4.ensures)

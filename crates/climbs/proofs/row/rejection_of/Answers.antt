use Rattle.climbs.specs.Row.{refusal_of}
use Rattle.climbs.proofs.row.rejection_of.Goals as goal

pub returns : goal.returns
unfolding refusal_of
returns c = rw (c.number_of.ensures, c.sibling_at.ensures)

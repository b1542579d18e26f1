use Rattle.std.proofs.Common.{sym, ap}
use Rattle.climbs.specs.Begun.{begun_row}
use Rattle.climbs.proofs.prove.begun_row.Goals as goal

pub returns-in-Some : goal.returns-in-Some
unfolding begun_row
returns-in-Some c = sym (ap begun_row c.in-Some.is)

pub returns-in-None : goal.returns-in-None
unfolding begun_row
returns-in-None c = sym (ap begun_row c.in-None.is)

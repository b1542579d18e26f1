use native.Mathlib.Numerals.{add-one}
use Rattle.order.specs.SetRead.{between}
use Rattle.order.proofs.set.between.Goals as goal

pub returns : goal.returns
unfolding between
returns c = rw (c.place_at-start.ensures, c.place_at-end.ensures, add-one c.args.i)

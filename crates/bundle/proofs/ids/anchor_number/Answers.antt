use mathlib.Core.Path.{sym, ap}
use Rattle.bundle.specs.Ahead.{anchor_of}
use Rattle.bundle.proofs.ids.anchor_number.Goals as goal

pub returns-in-Some : goal.returns-in-Some
unfolding anchor_of
returns-in-Some c = sym (ap anchor_of c.in-Some.is)

pub returns-in-None : goal.returns-in-None
unfolding anchor_of
returns-in-None c = sym (ap anchor_of c.in-None.is)

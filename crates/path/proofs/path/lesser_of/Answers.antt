use native.Mathlib.Omega.{arith}
use mathlib.Core.Path.{ap}
use Rattle.std.specs.Prelude.{Some}
use Rattle.path.specs.Search.{lesser}
use Rattle.path.proofs.path.lesser_of.Goals as goal

pub returns-in_default : goal.returns-in_default
unfolding lesser
returns-in_default c = rw c.in_default.is

pub returns-in_default-b : goal.returns-in_default-b
unfolding lesser
returns-in_default-b c = rw (c.in-Some.is, c.in_default-b.is)

pub returns-then-x-y : goal.returns-then-x-y
unfolding lesser
returns-then-x-y c = rw (c.in-Some.is, c.in-Some-b.is) (ap Some (omega arith))

pub returns-else-x-y : goal.returns-else-x-y
unfolding lesser
returns-else-x-y c = rw (c.in-Some.is, c.in-Some-b.is) (ap Some (omega arith))

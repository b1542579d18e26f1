use Rattle.std.proofs.Common.{refl, ap, ◌∙◌, Some}
use Rattle.levels.specs.Fronts.{lesser}
use Rattle.levels.proofs.FrontsLaws.{min-picked}
use Rattle.levels.proofs.level.lesser.Goals as goal

pub returns-in-None-default : goal.returns-in-None-default
unfolding lesser
returns-in-None-default c = rw c.in-None-default.is-0 refl

pub returns-in_default-None : goal.returns-in_default-None
unfolding lesser
returns-in_default-None c = rw (c.in_default-None.is-0, c.in_default-None.is-1) refl

pub returns-in-Some-Some : goal.returns-in-Some-Some
unfolding lesser
returns-in-Some-Some c = rw (c.in-Some-Some.is-0, c.in-Some-Some.is-1) (ap Some (c.min.ensures ∙ min-picked _ _))

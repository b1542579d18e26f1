use Rattle.format.specs.Level.{kind_field}
use Rattle.path.specs.Unchecked.{unchecked_carried}
use Rattle.path.proofs.walk.step_carried.Goals as goal

pub returns-in-Bump : goal.returns-in-Bump
returns-in-Bump c = rw c.in-Bump.is c.step_flagged.ensures

pub returns-in-Cmp : goal.returns-in-Cmp
unfolding kind_field unchecked_carried
returns-in-Cmp c = rw c.in-Cmp.is c.step_kind.ensures

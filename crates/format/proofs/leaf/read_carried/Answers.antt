use Rattle.format.specs.Level.{kind_field, carried_field}
use Rattle.format.proofs.leaf.read_carried.Goals as goal

pub returns-in-Bump : goal.returns-in-Bump
returns-in-Bump c = rw c.in-Bump.is c.read_flagged.ensures

pub returns-in-Cmp : goal.returns-in-Cmp
unfolding kind_field carried_field
returns-in-Cmp c = rw c.in-Cmp.is c.skip_kind.ensures

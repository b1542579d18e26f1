use Rattle.bundle.proofs.WalkLaws.{walk_is}
use Rattle.bundle.proofs.sums.walk_at.Goals as goal

pub returns : goal.returns
returns c = walk_is _ _

use Rattle.hash.specs.Parts.{stage}
use Rattle.hash.proofs.compress.stage_of.Goals as goal

pub returns : goal.returns
unfolding stage
returns c = cc

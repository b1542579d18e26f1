use Rattle.stream.specs.Lent.{progress_of}
use Rattle.stream.proofs.state.progress_of.Goals as goal

pub returns : goal.returns
unfolding progress_of
returns c = cc

use Rattle.stream.specs.Lent.{open_state}
use Rattle.stream.proofs.state.open_state.Goals as goal

pub returns : goal.returns
unfolding open_state
returns c = cc

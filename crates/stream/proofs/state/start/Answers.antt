use Rattle.stream.proofs.LentLaws.{start_is}
use Rattle.stream.proofs.state.start.Goals as goal

pub returns : goal.returns
returns c = start_is _ _ c.fresh.ensures c.first_field.ensures c.open_state.ensures

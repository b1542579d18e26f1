use Rattle.stream.specs.Lent.{answer_of}
use mathlib.Core.Path.{refl}
use Rattle.stream.proofs.state.receipt.Goals as goal

pub returns : goal.returns
unfolding answer_of
returns c = rw c.no_answer.ensures refl

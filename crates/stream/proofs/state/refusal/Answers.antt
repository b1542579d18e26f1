use mathlib.Core.Path.{refl}
use Rattle.stream.specs.Lent.{answer_of}
use Rattle.stream.proofs.state.refusal.Goals as goal

pub returns : goal.returns
unfolding answer_of
returns c = rw (c.from.ensures, c.number.ensures, c.no_answer.ensures) refl

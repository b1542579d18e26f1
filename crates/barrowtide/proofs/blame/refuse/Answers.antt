use mathlib.Core.Path.{refl}
use Rattle.barrowtide.proofs.blame.refuse.Goals as goal

pub returns : goal.returns
returns c = (refl, c.blame_of.ensures)

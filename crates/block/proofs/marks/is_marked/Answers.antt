use mathlib.Core.Path.{refl}
use Rattle.block.specs.Marks.{marked}
use Rattle.block.proofs.marks.is_marked.Goals as goal

pub returns : goal.returns
unfolding marked
returns c = refl

use mathlib.Core.Path.{refl}
use Rattle.format.specs.Tsc.{tells_root}
use Rattle.format.proofs.tsc.TscHead.tells_root.Goals as goal

pub returns : goal.returns
unfolding tells_root
returns c = refl

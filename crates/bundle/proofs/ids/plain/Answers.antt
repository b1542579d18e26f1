use mathlib.Core.Path.{refl}
use Rattle.bundle.specs.Ahead.{plain_span}
use Rattle.bundle.proofs.ids.plain.Goals as goal

pub returns : goal.returns
unfolding plain_span
returns c = refl

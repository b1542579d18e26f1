use mathlib.Core.Path.{refl}
use Rattle.bundle.specs.Ahead.{no_span}
use Rattle.bundle.proofs.ids.no_span.Goals as goal

pub returns : goal.returns
unfolding no_span
returns c = refl

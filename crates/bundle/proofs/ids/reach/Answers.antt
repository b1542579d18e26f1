use mathlib.Core.Path.{sym}
use Rattle.bundle.specs.Ahead.{span_of}
use Rattle.bundle.proofs.AheadLaws.{reached-fault, reached-ok}
use Rattle.bundle.proofs.ids.reach.Goals as goal

pub returns-in_default : goal.returns-in_default
returns-in_default c = reached-fault _ _ _ _ _ (sym c.in_default.ensures) c.none_reached.ensures.0 c.none_reached.ensures.1

pub returns : goal.returns
unfolding span_of
returns c = rw c.anchor_number.ensures (reached-ok _ _ _ _ (sym c.in-Ok.ensures))

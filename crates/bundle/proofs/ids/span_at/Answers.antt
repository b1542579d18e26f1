use Rattle.bundle.proofs.AheadLaws.{reached-none}
use Rattle.bundle.proofs.ids.span_at.Goals as goal

pub returns-in-None : goal.returns-in-None
returns-in-None c = reached-none _ _ _ _ _ c.in-None.is c.none_reached.ensures.0 c.none_reached.ensures.1

use Rattle.bundle.proofs.AnchoredLaws.{risen_none}
use Rattle.bundle.proofs.anchored.climb_bump.Goals as goal

pub returns-then-not-is_named : goal.returns-then-not-is_named
returns-then-not-is_named c = risen_none _ _ _ _ _ _ _ _ (c.is_named.ensures c.if-not-is_named.true)

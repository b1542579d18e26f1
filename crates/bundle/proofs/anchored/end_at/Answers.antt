use Rattle.bundle.proofs.AnchoredLaws.{at-passes, at-refuses}
use Rattle.bundle.proofs.anchored.end_at.Goals as goal

pub returns-then-number-eq0 : goal.returns-then-number-eq0
returns-then-number-eq0 c = at-passes _ _ _ c.if-number-eq0.true

pub returns : goal.returns
returns c = at-refuses _ _ _ c.if-number-eq0.false

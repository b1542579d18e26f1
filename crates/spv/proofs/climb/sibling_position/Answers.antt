use mathlib.Core.Path.{sym}
use Rattle.spv.proofs.ClimbLaws.{sibling-odd, sibling-even}
use Rattle.spv.proofs.climb.sibling_position.Goals as goal

pub returns-then-j-eq1 : goal.returns-then-j-eq1
returns-then-j-eq1 c = sym (sibling-odd _ c.if-j-eq1.true)

pub returns-else-j-eq1 : goal.returns-else-j-eq1
returns-else-j-eq1 c = sym (sibling-even _ c.if-j-eq1.false)

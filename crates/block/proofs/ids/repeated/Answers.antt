use mathlib.Core.Path.{sym}
use Rattle.block.proofs.IdsLaws.{looked_for}
use Rattle.block.proofs.ids.repeated.Goals as goal

pub returns-then-taken-eq0 : goal.returns-then-taken-eq0
returns-then-taken-eq0 c = λ f. sym (f c.if-taken-eq0.true)

pub returns : goal.returns
returns c = λ f. looked_for _ _ c.requires c.hash_at.ensures c.among_from.ensures

use mathlib.Core.Path.{◌∙◌}
use Rattle.block.proofs.HeapLaws.{right_next, right_copy}
use Rattle.block.proofs.tree.right_of.Goals as goal

pub returns-then-j-count : goal.returns-then-j-count
returns-then-j-count c = c.node_at.ensures ∙ right_next _ _ _ _ _ _ c.if-j-count.true

pub returns : goal.returns
returns c = c.node_at-2.ensures ∙ right_copy _ _ _ _ _ _ c.if-j-count.false

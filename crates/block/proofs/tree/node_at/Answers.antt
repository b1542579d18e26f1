use mathlib.Core.Path.{◌∙◌}
use Rattle.block.proofs.HeapLaws.{node_base, node_heap}
use Rattle.block.proofs.tree.node_at.Goals as goal

pub returns-then-base : goal.returns-then-base
returns-then-base c = c.hash_at.ensures ∙ node_base _ _ _ _ c.if-base.true

pub returns : goal.returns
returns c = c.hash_at-2.ensures ∙ node_heap _ _ _ _ c.if-base.false

use Rattle.block.proofs.HeapLaws.{twin_even, twin_odd}
use Rattle.block.proofs.tree.has_twin.Goals as goal

pub returns-then-j-eq0 : goal.returns-then-j-eq0
returns-then-j-eq0 c = twin_even _ _ _ _ _ c.if-j-eq0.true

pub returns : goal.returns
returns c = twin_odd _ _ _ _ _ c.if-j-eq0.false c.node_at.ensures c.node_at-2.ensures c.same_bytes.ensures

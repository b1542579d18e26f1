use mathlib.Core.Path.{sym, ◌∙◌}
use Rattle.encoding.proofs.BufferLaws.{write_on_lem, write-end}
use Rattle.encoding.proofs.buffer.write.Goals as goal

pub loop-b-preserved : goal.loop-b-preserved
loop-b-preserved c = c.loop-b.invariant ∙ write_on_lem _ _ _ c.loop-b-test.true c.put-next.ensures

pub returns : goal.returns
returns c = sym (c.loop-b.invariant ∙ write-end _ _ _ c.loop-b-test.false)

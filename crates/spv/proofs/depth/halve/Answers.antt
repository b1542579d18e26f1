use Rattle.std.proofs.Common.{sym, ◌∙◌, arith}
use Rattle.spv.proofs.DepthLaws.{halved-step, halved-done}
use Rattle.spv.proofs.depth.halve.Goals as goal

pub loop-preserved : goal.loop-preserved
loop-preserved c = sym (halved-step _ _ _ (omega arith)) ∙ c.loop.invariant

pub returns : goal.returns
returns c = sym (halved-done _ _ _ (omega arith)) ∙ c.loop.invariant

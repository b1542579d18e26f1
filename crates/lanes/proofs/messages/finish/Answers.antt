use Rattle.std.proofs.Common.{◌∙◌, arith}
use Rattle.lanes.proofs.Turns.{after_more, after-done}
use Rattle.lanes.proofs.messages.finish.Goals as goal

pub loop-i-init : goal.loop-i-init
loop-i-init c = c.requires.1

pub loop-i-preserved : goal.loop-i-preserved
loop-i-preserved c = c.compressed-h.ensures ∙ rw (c.loop-i.invariant, c.block_of.ensures) (after_more c.args.m.now c.loop-i.i c.requires.0 (omega arith))

pub returns : goal.returns
returns c = c.loop-i.invariant ∙ after-done c.args.m.now c.loop-i.i (omega arith)

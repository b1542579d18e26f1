use Rattle.std.proofs.Common.{◌∙◌, arith}
use Rattle.hash.specs.Sha256.{H, pad}
use Rattle.hash.proofs.Padding.{H-step, H-done}
use Rattle.hash.proofs.hash_value.Goals as goal

pub loop-i-init : goal.loop-i-init
unfolding H
loop-i-init c = (omega arith, c.initial-h.ensures)

pub loop-i-preserved : goal.loop-i-preserved
loop-i-preserved c = (omega arith, c.compress-h.ensures ∙ rw (c.loop-i.invariant.1, c.block.ensures) (H-step (pad c.args.s.now) c.loop-i.i))

pub returns : goal.returns
returns c = H-done c.args.s.now c.loop-i.h c.loop-i.i (omega arith) c.loop-i.invariant.1

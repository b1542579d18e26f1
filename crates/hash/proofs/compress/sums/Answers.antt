use Rattle.std.proofs.Common.{arith, length-set}
use Rattle.hash.specs.Sha256.{◌⊞◌}
use Rattle.hash.proofs.Stages.{sums-step, sums-done}
use Rattle.hash.proofs.compress.sums.Goals as goal

pub loop-t-preserved : goal.loop-t-preserved
unfolding ◌⊞◌
loop-t-preserved c = (omega arith, c.loop-t.invariant.1, c.loop-t.invariant.2, simp length-set c.loop-t.invariant.3, sums-step c.args.k c.args.w c.loop-t.x c.loop-t.t c.loop-t.invariant.1 c.loop-t.invariant.2 c.loop-t.invariant.3 (omega arith) c.loop-t.invariant.4)

pub returns : goal.returns
returns c = sums-done c.args.k c.args.w c.loop-t.x c.loop-t.t c.loop-t.invariant.1 c.loop-t.invariant.2 c.loop-t.invariant.3 (omega arith) c.loop-t.invariant.4

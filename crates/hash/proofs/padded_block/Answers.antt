use Rattle.std.proofs.Common.{◌*◌, refl, arith, length-set}
use Rattle.hash.specs.Sha256.{pad, words}
use Rattle.hash.proofs.Words.{words_step, words-done}
use Rattle.hash.proofs.padded_block.Goals as goal

pub loop-t-init : goal.loop-t-init
unfolding words
loop-t-init c = (omega arith, refl, refl)

pub loop-t-preserved : goal.loop-t-preserved
loop-t-preserved c = (omega arith, simp length-set c.loop-t.invariant.1, rw c.padded_word.ensures (words_step (pad c.args.s.now) c.loop-t.w (64 * c.args.i) c.loop-t.t (omega arith) c.loop-t.invariant.2))

pub returns : goal.returns
returns c = words-done (pad c.args.s.now) c.loop-t.w (64 * c.args.i) 16 c.loop-t.t (omega arith) c.loop-t.invariant.1 c.loop-t.invariant.2

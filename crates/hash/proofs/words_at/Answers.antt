use Rattle.std.proofs.Common.{refl, arith, length-set}
use Rattle.std.proofs.lemmas.List.{length-replicate}
use Rattle.hash.specs.Sha256.{words}
use Rattle.hash.proofs.Words.{words_step, words-done}
use Rattle.hash.proofs.words_at.Goals as goal

pub loop-t-init : goal.loop-t-init
unfolding words
loop-t-init g c = (omega arith, length-replicate g.row.N 0, refl)

pub loop-t-preserved : goal.loop-t-preserved
loop-t-preserved g c = (omega arith, simp length-set c.loop-t.invariant.1, rw c.word_at.ensures (words_step c.args.s.now c.loop-t.w c.args.at c.loop-t.t (omega arith) c.loop-t.invariant.2))

pub returns : goal.returns
returns g c = words-done c.args.s.now c.loop-t.w c.args.at g.row.N c.loop-t.t (omega arith) c.loop-t.invariant.1 c.loop-t.invariant.2

use Rattle.std.proofs.Common.{refl, ◌∙◌, arith, length-set}
use Rattle.hash.specs.Sha256.{words}
use Rattle.hash.proofs.Words.{words-done}
use Rattle.lanes.specs.Lanes.{lanes, in_lane}
use Rattle.lanes.proofs.SideBySide.{words_on, lanes-length}
use Rattle.lanes.proofs.messages.blocks_in.Goals as goal

pub loop-t-init : goal.loop-t-init
unfolding lanes words
loop-t-init c = (omega arith, refl, λ l. refl)

pub loop-t-preserved : goal.loop-t-preserved
loop-t-preserved c = (omega arith, simp length-set c.loop-t.invariant.1, λ l. words_on l c.args.at (in_lane l c.args.a.now c.args.b.now c.args.c.now c.args.d.now) c.loop-t.w c.loop-t.t c.words_in.result (omega arith) (c.loop-t.invariant.2 l) (c.words_in.ensures l))

pub returns : goal.returns
returns c = λ l. words-done (in_lane l c.args.a.now c.args.b.now c.args.c.now c.args.d.now) (lanes l c.loop-t.w) c.args.at 16 c.loop-t.t (omega arith) (lanes-length l c.loop-t.w ∙ c.loop-t.invariant.1) (c.loop-t.invariant.2 l)

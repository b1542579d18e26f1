use Rattle.std.proofs.Common.{◌≡◌, take, sym, refl, append-nil, arith, length-set}
use Rattle.hash.specs.Sha256.{words}
use Rattle.lanes.specs.Lanes.{lanes, node}
use Rattle.lanes.proofs.SideBySide.{left_on, right_on, both}
use Rattle.lanes.proofs.children.Goals as goal

pub loop-t-init : goal.loop-t-init
unfolding words
loop-t-init c = (omega arith, refl, λ i. refl)

pub loop-t-preserved : goal.loop-t-preserved
loop-t-preserved c = (omega arith, simp length-set c.loop-t.invariant.1, λ i. left_on i (node i c.args.left) c.loop-t.w c.loop-t.t c.words.result (omega arith) (c.loop-t.invariant.2 i) (c.words.ensures i))

pub loop-t-2-init : goal.loop-t-2-init
unfolding words
loop-t-2-init c =
    let e : c.loop-t.t ≡ 8 = omega arith in
    (omega arith, omega arith, c.loop-t.invariant.1, λ i. sym (append-nil (take 8 (lanes i c.loop-t.w))))

pub loop-t-2-preserved : goal.loop-t-2-preserved
loop-t-2-preserved c = (omega arith, omega arith, simp length-set c.loop-t-2.invariant.2, λ i. right_on i (take 8 (lanes i c.loop-t.w)) (node i c.args.right) c.loop-t-2.w c.loop-t-2.t c.words-in-loop-t-2.result (omega arith) (omega arith) (c.loop-t-2.invariant.3 i) (c.words-in-loop-t-2.ensures i))

pub returns : goal.returns
returns c i = both i (node i c.args.left) (node i c.args.right) c.loop-t.w c.loop-t-2.w c.loop-t-2.t c.loop-t.t (omega arith) (omega arith) c.loop-t-2.invariant.2 (c.loop-t.invariant.2 i) (c.loop-t-2.invariant.3 i)

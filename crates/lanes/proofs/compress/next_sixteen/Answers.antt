use Rattle.std.proofs.Common.{◌≡◌, ◌+◌, ◌-◌, length, arith, length-set, rules}
use Rattle.lanes.specs.Lanes.{all}
use Rattle.lanes.proofs.SideBySide.{going_on, going_all}
use Rattle.lanes.proofs.compress.next_sixteen.Goals as goal

pub loop-t-init : goal.loop-t-init
loop-t-init c = (omega arith, omega arith, search rules, λ i m l r. r)

pub loop-t-preserved : goal.loop-t-preserved
unfolding all
loop-t-preserved c = (omega arith, omega arith, simp length-set c.loop-t.invariant.2, going_on _ c.loop-t.w 0 c.loop-t.t (c.loop-t.t + 14) (c.loop-t.t + 9) (c.loop-t.t + 1) c.next_words.result (omega arith) (omega arith) (omega arith) (omega arith) c.next_words.ensures c.loop-t.invariant.3)

pub loop-t-2-init : goal.loop-t-2-init
loop-t-2-init c = (omega arith, omega arith, c.loop-t.invariant.2, λ i m l r. r)

pub loop-t-2-preserved : goal.loop-t-2-preserved
unfolding all
loop-t-2-preserved c = (omega arith, omega arith, simp length-set c.loop-t-2.invariant.2, going_on _ c.loop-t-2.w 2 c.loop-t-2.t (c.loop-t-2.t - 2) (c.loop-t-2.t + 9) (c.loop-t-2.t + 1) c.next_words-in-loop-t-2.result (omega arith) (omega arith) (omega arith) (omega arith) c.next_words-in-loop-t-2.ensures c.loop-t-2.invariant.3)

pub loop-t-3-init : goal.loop-t-3-init
loop-t-3-init c = (omega arith, omega arith, c.loop-t-2.invariant.2, λ i m l r. r)

pub loop-t-3-preserved : goal.loop-t-3-preserved
unfolding all
loop-t-3-preserved c = (omega arith, omega arith, simp length-set c.loop-t-3.invariant.2, going_on _ c.loop-t-3.w 7 c.loop-t-3.t (c.loop-t-3.t - 2) (c.loop-t-3.t - 7) (c.loop-t-3.t + 1) c.next_words-in-loop-t-3.result (omega arith) (omega arith) (omega arith) (omega arith) c.next_words-in-loop-t-3.ensures c.loop-t-3.invariant.3)

pub returns : goal.returns
unfolding all
returns c i =
    let m = c.args.m in
    let lm : length m ≡ 16 = search rules in
    let e3 : c.loop-t-3.t ≡ 15 = omega arith in
    let e2 : c.loop-t-2.t ≡ 7 = omega arith in
    let e1 : c.loop-t.t ≡ 2 = omega arith in
    going_all c.loop-t.w c.loop-t-2.w c.loop-t-3.w _ m lm (rw e1 at c.loop-t.invariant.3) (rw e2 at c.loop-t-2.invariant.3) (rw e3 at c.loop-t-3.invariant.3)
    (going_on c.loop-t-3.w c.loop-t-3.w 15 15 13 8 0 c.next_words-2.result (omega arith) (omega arith) (omega arith) (omega arith) c.next_words-2.ensures (λ i m l r. r)) i

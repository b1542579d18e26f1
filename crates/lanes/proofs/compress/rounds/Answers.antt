use Rattle.std.proofs.Common.{◌≡◌, length, refl, arith, rules}
use Rattle.hash.specs.Parts.{rounds_by}
use Rattle.lanes.specs.Lanes.{lane, all, word_in}
use Rattle.lanes.proofs.SideBySide.{word_in-sum, round_on}
use Rattle.lanes.proofs.compress.rounds.Goals as goal

pub loop-t-init : goal.loop-t-init
unfolding rounds_by
loop-t-init c = (omega arith, λ i. refl)

pub loop-t-preserved : goal.loop-t-preserved
unfolding all
loop-t-preserved c =
    let lk : length c.args.k ≡ 16 = search rules in
    let lw : length c.args.w ≡ 16 = search rules in (
      omega arith,
      λ i. round_on i (lane i c.args.s) (lane i c.loop-t.r) (lane i c.round-r.result) c.args.k c.args.w c.loop-t.t (word_in i c.plus.result) (omega arith) (omega arith) (c.loop-t.invariant.1 i)
          (word_in-sum i _ _ c.all.result c.plus.result c.all.ensures c.plus.ensures) (c.round-r.ensures i),
    )

pub returns : goal.returns
returns c =
    let e : c.loop-t.t ≡ 16 = omega arith in
    rw e at c.loop-t.invariant.1

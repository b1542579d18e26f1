use Rattle.std.proofs.Common.{◌≡◌, add-one, arith}
use Rattle.hash.proofs.Stages.{no_round, one-round}
use Rattle.hash.proofs.compress.rounds.Goals as goal

pub loop-t-init : goal.loop-t-init
loop-t-init c = (omega arith, no_round c.args.s c.args.x)

pub loop-t-preserved : goal.loop-t-preserved
loop-t-preserved c = (omega arith, rw add-one (one-round c.args.s c.args.x c.loop-t.t c.loop-t.r c.round-r.result c.loop-t.invariant.1 c.round-r.ensures))

pub returns : goal.returns
returns c =
    let e : c.loop-t.t ≡ 16 = omega arith in
    rw e at c.loop-t.invariant.1

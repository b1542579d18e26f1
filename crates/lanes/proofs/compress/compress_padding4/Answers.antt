-- Four times sixteen rounds, by known sums.
use Rattle.std.proofs.Common.{replicate, ◌∙◌}
use Rattle.hash.proofs.Known.{known}
use Rattle.hash.proofs.Stages.{window}
use Rattle.lanes.specs.Lanes.{lane, lanes}
use Rattle.lanes.proofs.SideBySide.{lanes-none, four-known}
use Rattle.lanes.proofs.compress.compress_padding4.Goals as goal

pub returns : goal.returns
unfolding known window
returns c i =
    c.sum.ensures i
    ∙ four-known (lane i c.args.s) (lane i c.rounds-r0.result) (lane i c.rounds-r1.result) (lane i c.rounds-r2.result) (lane i c.rounds-r3.result) (lanes i (replicate 16 c.all-none.result))
    (lanes-none i c.all-none.result c.all-none.ensures) (c.rounds-r0.ensures i) (c.rounds-r1.ensures i) (c.rounds-r2.ensures i) (c.rounds-r3.ensures i)

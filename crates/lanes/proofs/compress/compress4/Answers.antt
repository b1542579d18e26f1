-- Sixteen rounds and the next sixteen words, four times.
use Rattle.std.proofs.Common.{◌≡◌, length, ◌∙◌, rules}
use Rattle.hash.specs.Sha256.{K}
use Rattle.hash.proofs.Stages.{window}
use Rattle.lanes.specs.Lanes.{lane, lanes}
use Rattle.lanes.proofs.SideBySide.{lanes-length, four_stages}
use Rattle.lanes.proofs.compress.compress4.Goals as goal

pub returns : goal.returns
unfolding K window
returns c i =
    let lm : length c.args.m ≡ 16 = search rules in
    c.sum.ensures i
    ∙ four_stages (lane i c.args.s) (lane i c.rounds-r0.result) (lane i c.rounds-r1.result) (lane i c.rounds-r2.result) (lane i c.rounds-r3.result) (lanes i c.args.m) (lanes i c.next_sixteen-w1.result) (lanes i c.next_sixteen-w2.result) (lanes i c.next_sixteen-w3.result)
    (lanes-length i c.args.m ∙ lm) (c.rounds-r0.ensures i) (c.next_sixteen-w1.ensures i) (c.rounds-r1.ensures i) (c.next_sixteen-w2.ensures i) (c.rounds-r2.ensures i) (c.next_sixteen-w3.ensures i) (c.rounds-r3.ensures i)

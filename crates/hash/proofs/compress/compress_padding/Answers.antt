-- Four times sixteen rounds, by known sums.
use Rattle.std.proofs.Common.{◌∙◌}
use Rattle.hash.proofs.Known.{known, padding-rounds}
use Rattle.hash.proofs.Stages.{window}
use Rattle.hash.proofs.compress.compress_padding.Goals as goal

pub returns : goal.returns
unfolding known window
returns c =
    c.plus.ensures
    ∙ padding-rounds c.args.s c.rounds-r.result c.rounds-r-2.result c.rounds-r-3.result c.rounds-r-4.result
    c.rounds-r.ensures c.rounds-r-2.ensures c.rounds-r-3.ensures c.rounds-r-4.ensures

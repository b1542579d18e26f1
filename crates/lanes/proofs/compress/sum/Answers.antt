use Rattle.hash.specs.Sha256.{plus}
use Rattle.lanes.specs.Lanes.{lane, value}
use Rattle.lanes.proofs.SideBySide.{word_in-lanewise2}
use Rattle.lanes.proofs.compress.sum.Goals as goal

pub returns : goal.returns
unfolding lane value plus
returns c i = simp (c.plus-8.ensures, c.plus-7.ensures, c.plus-6.ensures, c.plus-5.ensures, c.plus-4.ensures, c.plus-3.ensures, c.plus-2.ensures, c.plus.ensures, word_in-lanewise2)

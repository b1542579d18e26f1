use Rattle.hash.specs.Sha256.{round, T1, T2}
use Rattle.lanes.specs.Lanes.{lane, value}
use Rattle.lanes.proofs.SideBySide.{word_in-lanewise, word_in-lanewise2, word_in-lanewise3, plus_none}
use Rattle.lanes.proofs.compress.round.Goals as goal

pub returns : goal.returns
unfolding lane value round T1 T2
returns c i =
    simp
    (c.plus-4.ensures, c.plus-3.ensures, c.plus-t2.ensures, c.majs.ensures, c.big_sigma0s.ensures, c.plus-t1.ensures, c.plus-2.ensures, c.chs.ensures, c.plus.ensures, c.big_sigma1s.ensures, word_in-lanewise, word_in-lanewise2, word_in-lanewise3, plus_none)

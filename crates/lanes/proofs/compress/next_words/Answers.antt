use Rattle.lanes.proofs.SideBySide.{word_in-lanewise, word_in-lanewise2}
use Rattle.lanes.proofs.compress.next_words.Goals as goal

pub returns : goal.returns
returns c i = simp (c.plus-3.ensures, c.plus-2.ensures, c.small_sigma0s.ensures, c.plus.ensures, c.small_sigma1s.ensures, word_in-lanewise2, word_in-lanewise)

use Rattle.lanes.specs.Lanes.{lane, value}
use Rattle.hash.specs.Sha256.{H0}
use Rattle.lanes.proofs.SideBySide.{word_in-all}
use Rattle.lanes.proofs.initial.Goals as goal

pub returns : goal.returns
unfolding lane value H0
returns c i =
    simp (c.all-8.ensures, c.all-7.ensures, c.all-6.ensures, c.all-5.ensures, c.all-4.ensures, c.all-3.ensures, c.all-2.ensures, c.all.ensures, word_in-all)
    c.initial-h.ensures

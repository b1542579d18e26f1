use Rattle.barrowtide.proofs.blame.refuse_reading.Goals as goal

pub returns : goal.returns
returns c = rw c.reject_reading.ensures at c.refuse.ensures

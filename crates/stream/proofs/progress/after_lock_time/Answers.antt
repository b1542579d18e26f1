use Rattle.stream.specs.Progress.{after_lock_time}
use borrow.Author.Tests.{eq-eqb, ne_eqb}
use Rattle.stream.proofs.progress.after_lock_time.Goals as goal

pub returns-then-f-eq-NODE_PAIR : goal.returns-then-f-eq-NODE_PAIR
unfolding after_lock_time
returns-then-f-eq-NODE_PAIR c = rw (eq-eqb _ _ c.if-f-eq-NODE_PAIR.true) c.refused.ensures

pub returns : goal.returns
unfolding after_lock_time
returns c = rw (ne_eqb _ _ c.if-f-eq-NODE_PAIR.false, ← c.begin.ensures)

use Rattle.stream.specs.Progress.{next_at}
use borrow.Author.Tests.{le-leb, lt-leb}
use Rattle.stream.proofs.progress.after_input_count.Goals as goal

pub returns-then-v-lt1 : goal.returns-then-v-lt1
unfolding next_at
returns-then-v-lt1 c = rw (lt-leb _ _ c.if-v-lt1.true) c.refused.ensures

pub returns : goal.returns
unfolding next_at
returns c = rw (le-leb _ _ c.if-v-lt1.false, ← c.count_inputs.ensures, ← c.begin.ensures)

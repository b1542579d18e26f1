use Rattle.bundle.proofs.FlatLaws.{lesser-not, lesser-first, lesser_k}
use mathlib.Core.Path.{ap}
use mathlib.Core.Bool.{not}
use Rattle.bundle.proofs.marks.earlier.Goals as goal

pub returns-then-not-meant : goal.returns-then-not-meant
returns-then-not-meant c = lesser-not _ _ _ (ap not c.if-not-meant.true)

pub returns-then-first-k : goal.returns-then-first-k
returns-then-first-k c = lesser-first _ _ _ (ap not c.if-not-meant.false) c.if-first-k.true

pub returns : goal.returns
returns c = lesser_k _ _ _ (ap not c.if-not-meant.false) c.if-first-k.false

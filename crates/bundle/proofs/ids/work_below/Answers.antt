use mathlib.Core.Path.{sym, ◌∙◌}
use native.Mathlib.Omega.{arith}
use Rattle.bundle.proofs.WorkMadeLaws.{below-past, below-counted}
use Rattle.bundle.proofs.ids.work_below.Goals as goal

pub returns-then-n-k : goal.returns-then-n-k
returns-then-n-k c = (sym (below-past _ _ _ c.if-n-k.true), omega arith)

pub returns : goal.returns
returns c = (c.span_work.ensures.0 ∙ sym (below-counted _ _ _ c.if-n-k.false), c.span_work.ensures.1)

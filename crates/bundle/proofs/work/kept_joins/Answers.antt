use mathlib.Core.Path.{sym}
use native.Mathlib.Omega.{arith}
use Rattle.bundle.proofs.WorkMadeLaws.{kept-none, kept-some}
use Rattle.bundle.proofs.work.kept_joins.Goals as goal

pub returns-then-anchors-k : goal.returns-then-anchors-k
returns-then-anchors-k c = (sym (kept-none _ _ _ c.if-anchors-k.true), omega arith)

pub returns : goal.returns
returns c = (sym (kept-some _ _ _ c.if-anchors-k.false), omega arith)

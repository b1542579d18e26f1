use native.Mathlib.Omega.{arith}
use native.Mathlib.Nat.{sub-zero}
use mathlib.Core.Path.{sym, ◌∙◌}
use Rattle.path.proofs.SearchLaws.{seek-end, seek_stop, seek-here, seek_on}
use Rattle.path.proofs.path.seek_leaf.Goals as goal

pub loop-init : goal.loop-init
loop-init c = (omega arith, simp sub-zero)

pub returns-in_default : goal.returns-in_default
returns-in_default c = sym (c.loop.invariant.1 ∙ seek_stop _ _ _ _ _ (omega arith) c.in_default.ensures)

pub returns-then-leaf-position : goal.returns-then-leaf-position
returns-then-leaf-position c = let t = c.in-Ok.ensures in rw (c.kind_at.ensures, t.1) (sym (c.loop.invariant.1 ∙ seek-here _ _ _ _ _ (omega arith) t.1 c.if-leaf-position.true))

pub loop-preserved : goal.loop-preserved
loop-preserved c = let t = c.in-Ok.ensures in (omega arith, c.loop.invariant.1 ∙ seek_on _ _ _ _ _ _ (omega arith) t.1 c.if-leaf-position.false)

pub returns : goal.returns
returns c = sym (c.loop.invariant.1 ∙ seek-end _ _ _ _ _ (omega arith))

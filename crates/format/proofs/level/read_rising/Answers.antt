use native.Mathlib.Omega.{arith}
use mathlib.Core.Path.{sym}
use Rattle.format.proofs.SeenLaws.{risen_start, risen_step, risen_done}
use Rattle.format.proofs.level.read_rising.Goals as goal

pub loop-init : goal.loop-init
loop-init c = (omega arith, risen_start _ _ _ _ _ _)

pub returns-in_default : goal.returns-in_default
returns-in_default c = c.read_leaves.ensures

pub returns-then-offset : goal.returns-then-offset
returns-then-offset c = c.read_leaves-then-offset.ensures

pub loop-preserved : goal.loop-preserved
loop-preserved c = let a = c.in-Ok.ensures in (omega arith, risen_step _ _ _ _ _ _ _ _ _ (omega arith) c.loop.invariant.1 a.0 a.1)

pub returns : goal.returns
returns c = sym (risen_done _ _ _ _ _ _ _ _ _ (omega arith) c.loop.invariant.1)

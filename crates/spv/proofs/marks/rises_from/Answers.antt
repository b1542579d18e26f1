use Rattle.std.proofs.Common.{sym, arith}
use Rattle.spv.proofs.MarksLaws.{rises-stop, rises-step, rises-end}
use Rattle.spv.proofs.marks.rises_from.Goals as goal

pub returns-in_default : goal.returns-in_default
returns-in_default c = λ e. c.loop.invariant (rises-stop _ _ _ _ _ (sym c.in_default.ensures))

pub loop-preserved : goal.loop-preserved
loop-preserved c = λ h. c.loop.invariant (rises-step _ _ _ _ _ _ (omega arith) (sym c.in-Ok.ensures) (omega arith) h)

pub returns : goal.returns
returns c = λ e. c.loop.invariant (rises-end _ _ _ _ _ (omega arith))

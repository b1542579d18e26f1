use mathlib.Core.Path.{sym}
use Rattle.path.proofs.StepLaws.{told_on, unchecked_stuck, unchecked_on}
use Rattle.path.proofs.walk.pass_leaf.Goals as goal

pub returns-in_err-offset : goal.returns-in_err-offset
returns-in_err-offset c = told_on _ _ _ c.from_residual.ensures.1 (unchecked_stuck _ _ _ (sym c.in_err-offset.ensures))

pub returns : goal.returns
returns c = rw (unchecked_on c.args.layout _ _ (sym c.in_ok-offset.ensures)) c.step_carried.ensures

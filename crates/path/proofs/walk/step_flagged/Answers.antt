use mathlib.Core.Path.{sym}
use Rattle.path.proofs.StepLaws.{told_on, flagged_stuck, flagged_on}
use Rattle.path.proofs.walk.step_flagged.Goals as goal

pub returns-in_err-flags : goal.returns-in_err-flags
returns-in_err-flags c = told_on _ _ _ c.from_residual.ensures.1 (flagged_stuck _ _ _ (sym c.in_err-flags.ensures))

pub returns : goal.returns
returns c = rw (flagged_on c.args.offset _ _ (sym c.in_ok-flags.ensures)) c.step_kind.ensures

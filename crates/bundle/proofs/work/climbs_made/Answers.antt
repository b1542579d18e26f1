use mathlib.Core.Path.{sym, ◌∙◌}
use native.Mathlib.Omega.{arith}
use Rattle.bundle.proofs.WorkMadeLaws.{made_accepted, made_refused}
use Rattle.bundle.proofs.work.climbs_made.Goals as goal

pub returns-in-Ok : goal.returns-in-Ok
returns-in-Ok c = (sym (made_accepted _ c.in-Ok.is), omega arith)

pub returns-in-Err : goal.returns-in-Err
returns-in-Err c = (c.climbs_before.ensures.0 ∙ sym (made_refused _ c.in-Err.is), c.climbs_before.ensures.1)

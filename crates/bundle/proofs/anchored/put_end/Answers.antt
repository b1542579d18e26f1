use mathlib.Core.Path.{◌∙◌}
use Rattle.bundle.proofs.AnchoredLaws.{put-refuses, put-passes}
use Rattle.bundle.proofs.anchored.put_end.Goals as goal

pub returns-in-Err : goal.returns-in-Err
returns-in-Err c = c.put_four.ensures ∙ put-refuses _ _ _ c.in-Err.is

pub returns-in-Ok : goal.returns-in-Ok
returns-in-Ok c = c.put_four-in-Ok.ensures ∙ put-passes _ _ _ c.in-Ok.is

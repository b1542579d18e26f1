use mathlib.Core.Path.{sym, ◌∙◌}
use Rattle.barrowtide.proofs.OrderingLaws.{told-accepted, told-refused}
use Rattle.barrowtide.proofs.ordering.tell.Goals as goal

pub returns-in-Ok : goal.returns-in-Ok
returns-in-Ok c = λ v h. told-accepted v _ _ (sym c.in-Ok.is ∙ h)

pub returns-in-Err : goal.returns-in-Err
returns-in-Err c = λ v h. let t = told-refused v c.in-Err.refusal _ _ (sym c.in-Err.is ∙ h) in (c.refuse.ensures.0 ∙ t.0, c.refuse.ensures.1 ∙ t.1, t.2)

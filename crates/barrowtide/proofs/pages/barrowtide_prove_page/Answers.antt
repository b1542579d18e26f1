use mathlib.Core.Path.{◌∙◌}
use Rattle.spv.proofs.ResultLaws.{answered-ok, answered-err}
use Rattle.barrowtide.proofs.InterfaceLaws.{refused-number, refused-blame, given-number, given-blame}
use Rattle.barrowtide.proofs.pages.barrowtide_prove_page.Goals as goal

pub returns-in-Ok : goal.returns-in-Ok
returns-in-Ok c =
    let e = (answered-ok _ _ _ c.in-Ok.ensures.0).1 in
    (given-number _ e, c.in-Ok.ensures.1, given-blame _ _ e)

pub returns-in-Err : goal.returns-in-Err
returns-in-Err c =
    let e = answered-err _ _ _ c.in-Err.ensures.0 in
    (c.refuse.ensures.0 ∙ refused-number _ e, c.in-Err.ensures.1, c.refuse.ensures.1 ∙ refused-blame _ _ e)

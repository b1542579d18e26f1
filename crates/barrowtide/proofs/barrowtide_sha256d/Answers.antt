use mathlib.Core.Path.{sym, ap, ◌∙◌}
use Rattle.spv.specs.declared.rejection.Rejection.{Rejection}
use Rattle.barrowtide.specs.Answers.{of_hashed}
use Rattle.barrowtide.specs.Interface.{blamed}
use Rattle.barrowtide.proofs.InterfaceLaws.{refused-number, refused-blame, refused-taken, given-number, given-blame, given-taken}
use Rattle.barrowtide.proofs.barrowtide_sha256d.Goals as goal

pub returns-in-Some : goal.returns-in-Some
returns-in-Some c =
    let e = ap of_hashed (sym c.in-Some.ensures) in
    (given-number _ e, given-blame _ _ e, given-taken _ _ _ e)

pub returns-in-None : goal.returns-in-None
returns-in-None c =
    let e = ap of_hashed (sym c.in-None.ensures) in
    (c.refuse.ensures.0 ∙ ap (λ (why : Rejection). why.number) c.reject_for.ensures ∙ refused-number _ e, c.refuse.ensures.1 ∙ ap blamed c.reject_for.ensures ∙ refused-blame _ _ e, refused-taken _ _ _ e)

use mathlib.Core.Path.{ap, sym, ◌∙◌}
use Rattle.spv.proofs.ResultLaws.{answered-ok, answered-err}
use Rattle.spv.specs.declared.prove.Proved.{Proved}
use Rattle.barrowtide.proofs.InterfaceLaws.{refused-number, refused-blame, refused-taken, given-number, given-blame, given-taken}
use Rattle.barrowtide.proofs.prove.give.Goals as goal

pub returns-in-Ok : goal.returns-in-Ok
returns-in-Ok c =
    λ v h.
    let t = answered-ok _ v _ (sym c.in-Ok.is ∙ h) in
    let e = t.1 in
    (given-number v e, given-blame v _ e, ap (λ (p : Proved). p.position) (sym t.2) ∙ given-taken v _ _ e, ap (λ (p : Proved). p.layers) (sym t.2) ∙ given-taken v _ _ e, ap (λ (p : Proved). p.root) (sym t.2) ∙ given-taken v _ _ e)

pub returns-in-Err : goal.returns-in-Err
returns-in-Err c =
    λ v h.
    let e = answered-err _ v _ (sym c.in-Err.is ∙ h) in
    (c.refuse.ensures.0 ∙ refused-number v e, c.refuse.ensures.1 ∙ refused-blame v _ e, refused-taken v _ _ e, refused-taken v _ _ e, refused-taken v _ _ e)

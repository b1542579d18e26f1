use mathlib.Core.Path.{ap, sym, ◌∙◌}
use Rattle.spv.proofs.ResultLaws.{answered-ok, answered-err}
use Rattle.spv.specs.declared.prove.Proved.{Proved}
use Rattle.barrowtide.proofs.InterfaceLaws.{refused-number, refused-blame, refused-taken, given-number, given-blame, given-taken}
use Rattle.barrowtide.proofs.prove.barrowtide_prove_tsc.Goals as goal

pub returns-in-Ok : goal.returns-in-Ok
returns-in-Ok c =
    let t = answered-ok _ _ _ c.in-Ok.ensures in
    let e = t.1 in
    (given-number _ e, given-blame _ _ e, ap (λ (p : Proved). p.id) (sym t.2) ∙ given-taken _ _ _ e, ap (λ (p : Proved). p.position) (sym t.2) ∙ given-taken _ _ _ e, ap (λ (p : Proved). p.layers) (sym t.2) ∙ given-taken _ _ _ e, ap (λ (p : Proved). p.root) (sym t.2) ∙ given-taken _ _ _ e)

pub returns-in-Err : goal.returns-in-Err
returns-in-Err c =
    let e = answered-err _ _ _ c.in-Err.ensures in
    (c.refuse.ensures.0 ∙ refused-number _ e, c.refuse.ensures.1 ∙ refused-blame _ _ e, refused-taken _ _ _ e, refused-taken _ _ _ e, refused-taken _ _ _ e, refused-taken _ _ _ e)

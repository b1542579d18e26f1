use mathlib.Core.Path.{ap, sym, ◌∙◌}
use Rattle.spv.proofs.ResultLaws.{answered-ok, answered-err}
use Rattle.spv.specs.declared.compare.Pair.{Pair}
use Rattle.barrowtide.proofs.InterfaceLaws.{refused-number, refused-blame, refused-taken, given-number, given-blame, given-taken}
use Rattle.barrowtide.proofs.prove.barrowtide_compare.Goals as goal

pub returns-in-Ok : goal.returns-in-Ok
returns-in-Ok c =
    let t = answered-ok _ _ _ (sym c.in-Ok.is ∙ c.compare_proofs-compared.ensures) in
    let e = t.1 in
    rw (← c.form_of.ensures, ← c.form_of-2.ensures)
    (given-number _ e, given-blame _ _ e, ap (λ (p : Pair). p.first) (sym t.2) ∙ given-taken _ _ _ e, ap (λ (p : Pair). p.second) (sym t.2) ∙ given-taken _ _ _ e)

pub returns-in-Err : goal.returns-in-Err
returns-in-Err c =
    let e = answered-err _ _ _ (sym c.in-Err.is ∙ c.compare_proofs-compared.ensures) in
    rw (← c.form_of.ensures, ← c.form_of-2.ensures)
    (c.refuse.ensures.0 ∙ refused-number _ e, c.refuse.ensures.1 ∙ refused-blame _ _ e, refused-taken _ _ _ e, refused-taken _ _ _ e)

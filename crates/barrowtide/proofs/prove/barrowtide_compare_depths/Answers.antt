use mathlib.Core.Path.{sym, ◌∙◌}
use Rattle.spv.specs.Depth.{second_of}
use Rattle.spv.proofs.ResultLaws.{answered-err}
use Rattle.barrowtide.proofs.InterfaceLaws.{refused-number, refused-blame, refused-taken, given-number, given-blame, given-taken}
use Rattle.barrowtide.specs.Depths.{is_transaction}
use Rattle.barrowtide.proofs.DepthsLaws.{depth-transaction, depth-strings, first-refused, first-transaction, first-strings}
use Rattle.barrowtide.proofs.prove.barrowtide_compare_depths.Goals as goal

pub returns-in-Transaction : goal.returns-in-Transaction
unfolding is_transaction second_of
returns-in-Transaction c =
    let e = depth-transaction _ _ c.in-Transaction.u (sym c.in-Ok.is ∙ c.compare_depths-compared.ensures) c.in-Transaction.is in
    rw (← c.form_of.ensures, ← c.form_of-2.ensures)
    (given-number _ e, given-blame _ _ e, given-taken _ is_transaction _ e, first-transaction _ _ e, given-taken _ second_of _ e)

pub returns-in-Strings : goal.returns-in-Strings
unfolding is_transaction second_of
returns-in-Strings c =
    let e = depth-strings _ _ c.in-Strings.pair (sym c.in-Ok.is ∙ c.compare_depths-compared.ensures) c.in-Strings.is in
    rw (← c.form_of.ensures, ← c.form_of-2.ensures)
    (given-number _ e, given-blame _ _ e, given-taken _ is_transaction _ e, first-strings _ _ e, given-taken _ second_of _ e)

pub returns-in-Err : goal.returns-in-Err
returns-in-Err c =
    let e = answered-err _ _ _ (sym c.in-Err.is ∙ c.compare_depths-compared.ensures) in
    rw (← c.form_of.ensures, ← c.form_of-2.ensures)
    (c.refuse.ensures.0 ∙ refused-number _ e, c.refuse.ensures.1 ∙ refused-blame _ _ e, refused-taken _ _ _ e, first-refused _ _ e, refused-taken _ _ _ e)

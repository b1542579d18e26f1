use mathlib.Core.Path.{sym, ◌∙◌}
use Rattle.format.proofs.ParseLaws.{each-ok, each-fault}
use Rattle.format.specs.BeefAnswer.{beef_head_of}
use Rattle.barrowtide.proofs.InterfaceLaws.{refused-number, refused-blame, refused-taken, given-number, given-blame, given_view, reading-fault, reading-ok}
use Rattle.barrowtide.proofs.read.barrowtide_read_beef.Goals as goal

pub returns-in-Ok : goal.returns-in-Ok
returns-in-Ok c =
    let e = sym c.in-Ok.ensures in
    let x = reading-ok _ (each-ok beef_head_of _ e).1 in
    (given-number _ x, given-blame _ _ x, given_view beef_head_of (λ h. h.bumps) _ _ e, given_view beef_head_of (λ h. h.transactions) _ _ e)

pub returns-in-Err : goal.returns-in-Err
returns-in-Err c =
    let e = reading-fault _ (each-fault beef_head_of _ (sym c.in-Err.ensures)) in
    (c.refuse_reading.ensures.0 ∙ refused-number _ e, c.refuse_reading.ensures.1 ∙ refused-blame _ _ e, refused-taken _ _ _ e, refused-taken _ _ _ e)

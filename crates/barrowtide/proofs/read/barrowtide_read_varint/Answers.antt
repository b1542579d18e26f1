use mathlib.Core.Path.{sym, ◌∙◌}
use Rattle.barrowtide.proofs.InterfaceLaws.{first-ok, first-fault, first_too_long, refused-number, refused-blame, refused-taken, given-number, given-blame, given-taken}
use Rattle.barrowtide.proofs.read.barrowtide_read_varint.Goals as goal

pub returns-then-message-gt-MAX_INPUT : goal.returns-then-message-gt-MAX_INPUT
returns-then-message-gt-MAX_INPUT c =
    let e = first_too_long _ c.if-message-gt-MAX_INPUT.true in
    (c.number.ensures ∙ refused-number _ e, refused-blame _ _ e, refused-taken _ _ _ e, refused-taken _ _ _ e)

pub returns-in-Ok : goal.returns-in-Ok
returns-in-Ok c =
    let e = first-ok _ c.if-message-gt-MAX_INPUT.false (sym c.in-Ok.ensures) in
    (given-number _ e, given-blame _ _ e, given-taken _ _ _ e, given-taken _ _ _ e)

pub returns-in-Err : goal.returns-in-Err
returns-in-Err c =
    let e = first-fault _ c.if-message-gt-MAX_INPUT.false (sym c.in-Err.ensures) in
    (c.refuse_reading.ensures.0 ∙ refused-number _ e, c.refuse_reading.ensures.1 ∙ refused-blame _ _ e, refused-taken _ _ _ e, refused-taken _ _ _ e)

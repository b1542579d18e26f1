use mathlib.Core.Path.{sym, ◌∙◌}
use Rattle.format.proofs.ParseLaws.{each-ok, each-fault}
use Rattle.format.specs.Transaction.{tx_field, tx_head_of}
use Rattle.format.proofs.Whole.{whole-size}
use Rattle.hash.proofs.Sha256Laws.{hashed-accepted}
use Rattle.barrowtide.proofs.InterfaceLaws.{refused-number, refused-blame, refused-taken, given-number, given-blame, given-taken, given_view, reading-fault, reading-ok}
use Rattle.barrowtide.proofs.read.barrowtide_read_transaction.Goals as goal

pub returns-in-Ok : goal.returns-in-Ok
returns-in-Ok c =
    let e = sym c.in-Ok.ensures in
    let whole = (each-ok tx_head_of _ e).1 in
    let x = reading-ok _ whole in
    let digest = c.unwrap_or.ensures ∙ rw (c.sha256d.ensures, hashed-accepted _ (whole-size tx_field _ whole)) in
    (given-number _ x, given-blame _ _ x, given_view tx_head_of (λ h. h.inputs.count) _ _ e, given_view tx_head_of (λ h. h.outputs.count) _ _ e, digest ∙ given-taken _ _ _ x)

pub returns-in-Err : goal.returns-in-Err
returns-in-Err c =
    let e = reading-fault _ (each-fault tx_head_of _ (sym c.in-Err.ensures)) in
    (c.refuse_reading.ensures.0 ∙ refused-number _ e, c.refuse_reading.ensures.1 ∙ refused-blame _ _ e, refused-taken _ _ _ e, refused-taken _ _ _ e, refused-taken _ _ _ e)

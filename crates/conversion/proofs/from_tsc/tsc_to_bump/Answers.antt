use mathlib.Core.Path.{refl, sym}
use Rattle.std.proofs.lemmas.Result.{err_from_is_err_and}
use Rattle.format.proofs.ParseLaws.{each-ok, each-fault}
use Rattle.format.specs.Tsc.{tsc_head_of, tsc_whole}
use Rattle.spv.proofs.ShapesLaws.{told-accepted, told_unproved}
use Rattle.block.proofs.OutputLaws.{refused_so}
use Rattle.conversion.proofs.ConvertLaws.{from_unread, from_refused}
use Rattle.conversion.proofs.from_tsc.tsc_to_bump.Goals as goal

pub returns-in_err-head : goal.returns-in_err-head
returns-in_err-head c =
    let p = err_from_is_err_and c.from_residual.result c.from_residual.ensures.1 in
    let e = each-fault tsc_head_of (tsc_whole c.args.s.now) (sym c.in_err-head.ensures) in
    rw (p.1, p.2) (refused_so _ (from_unread c.args.s.now _ _ e) refl)

pub returns-in_err-id : goal.returns-in_err-id
returns-in_err-id c =
    let p = err_from_is_err_and c.from_residual-in_err-id.result c.from_residual-in_err-id.ensures.1 in
    let e = each-ok tsc_head_of (tsc_whole c.args.s.now) (sym c.in_ok-head.ensures) in
    rw (p.1, p.2) (refused_so _ (from_refused c.args.s.now _ _ e.0 _ e.1 (told_unproved _ _ c.in_err-id.ensures)) refl)

pub write_proved-requires : goal.write_proved-requires
write_proved-requires c =
    let e = each-ok tsc_head_of (tsc_whole c.args.s.now) (sym c.in_ok-head.ensures) in
    let p = told-accepted _ _ c.in_ok-id.ensures in
    record { tsc = e.0; end = _; proof = p.0; is_read = e.1; is_head = e.2; is_proved = p.1; is_id = p.5 }

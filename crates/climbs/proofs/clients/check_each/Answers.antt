use Rattle.std.proofs.Common.{Err, refl, ap, ◌∙◌, arith, sym}
use Rattle.format.specs.Refusals.{NOT_LISTED}
use Rattle.spv.specs.Result.{accepted, refused, carrying, follow}
use Rattle.spv.specs.Values.{worked_out}
use Rattle.climbs.specs.LookUp.{looked_up}
use Rattle.spv.specs.Clients.{closing}
use Rattle.climbs.specs.ClientsShapes.{checked_of}
use Rattle.spv.specs.Shapes.{bound_to}
use Rattle.climbs.proofs.WaitingLaws.{err_is, rows_none, checking-start, checking-end, checking_short, checking_halts, checking_goes}
use Rattle.climbs.proofs.clients.check_each.Goals as goal

pub loop-init : goal.loop-init
loop-init c = (checking-start _ _ _ _ _ _ _ (rows_none _ _ _ _ _), c.requires.0.some, refl, refl, refl, refl)

pub returns-in_err-settle_rows : goal.returns-in_err-settle_rows
returns-in_err-settle_rows c = err_is _ _ c.from_residual.ensures.1 ∙ ap checked_of (ap (λ x. follow x (λ w. refused (carrying NOT_LISTED 0))) c.in_err-settle_rows.ensures ∙ checking_short (worked_out (looked_up c.args.s.now c.args.path.at c.args.t.now c.args.others.now)) c.args.path.layers c.args.u.now _ _ _ c.loop.counter c.loop.next.at _ c.loop.invariant.0 (omega arith) _ _ (sym c.in_default.ensures))

pub returns-in_default : goal.returns-in_default
returns-in_default c = ap Err c.reject_for.ensures ∙ ap checked_of (ap (λ x. follow x (λ w. refused (carrying NOT_LISTED 0))) c.in_ok-settle_rows.ensures ∙ checking_short (worked_out (looked_up c.args.s.now c.args.path.at c.args.t.now c.args.others.now)) c.args.path.layers c.args.u.now _ _ _ c.loop.counter c.loop.next.at _ c.loop.invariant.0 (omega arith) _ _ (sym c.in_default.ensures))

pub returns-in_err-waiting : goal.returns-in_err-waiting
returns-in_err-waiting c = err_is _ _ c.from_residual-in_err-waiting.ensures.1 ∙ checking_halts _ _ _ _ _ _ _ _ _ (checking_goes (worked_out (looked_up c.args.s.now c.args.path.at c.args.t.now c.args.others.now)) c.args.path.layers c.args.u.now _ _ _ c.loop.counter c.loop.next.at _ c.loop.invariant.0 (omega arith) _ _ (sym c.in-Ok.ensures) _ (c.in_err-waiting.ensures ∙ c.take_row-taken.ensures.1 (worked_out (looked_up c.args.s.now c.args.path.at c.args.t.now c.args.others.now)) c.args.path.layers (accepted (bound_to c.loop.wanted)))) _ refl

pub loop-preserved : goal.loop-preserved
loop-preserved c = ((checking_goes (worked_out (looked_up c.args.s.now c.args.path.at c.args.t.now c.args.others.now)) c.args.path.layers c.args.u.now _ _ _ c.loop.counter c.loop.next.at _ c.loop.invariant.0 (omega arith) _ _ (sym c.in-Ok.ensures) _ (c.in_ok-waiting.ensures.1 ∙ c.take_row-taken.ensures.1 (worked_out (looked_up c.args.s.now c.args.path.at c.args.t.now c.args.others.now)) c.args.path.layers (accepted (bound_to c.loop.wanted)))), (c.in_ok-waiting.ensures.0), c.take_row-taken.auto.starts ∙ c.loop.invariant.2, c.make_room.auto.order ∙ c.loop.invariant.3, c.make_room.auto.states ∙ c.loop.invariant.4, c.make_room.auto.hashes ∙ c.take_row-taken.auto.hashes ∙ c.loop.invariant.5)

pub returns-in_err-settle_rows-2 : goal.returns-in_err-settle_rows-2
returns-in_err-settle_rows-2 c = err_is _ _ c.from_residual-in_err-settle_rows-2.ensures.1 ∙ ap checked_of (ap (λ x. follow x closing) c.in_err-settle_rows-2.ensures ∙ checking-end (worked_out (looked_up c.args.s.now c.args.path.at c.args.t.now c.args.others.now)) c.args.path.layers c.args.u.now _ _ _ c.loop.counter c.loop.next.at _ c.loop.invariant.0 (omega arith))

pub returns : goal.returns
returns c = c.close.ensures ∙ ap checked_of (ap (λ x. follow x closing) c.in_ok-settle_rows-2.ensures ∙ checking-end (worked_out (looked_up c.args.s.now c.args.path.at c.args.t.now c.args.others.now)) c.args.path.layers c.args.u.now _ _ _ c.loop.counter c.loop.next.at _ c.loop.invariant.0 (omega arith))

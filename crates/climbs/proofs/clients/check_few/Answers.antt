use Rattle.std.proofs.Common.{Err, refl, ap, ◌∙◌, arith, sym}
use Rattle.climbs.specs.ClientsShapes.{checked_of}
use Rattle.climbs.proofs.WaitingLaws.{err_is, checking-start, checking-end, checking_short, checking_halts, checking_goes}
use Rattle.climbs.proofs.clients.check_few.Goals as goal

pub loop-init : goal.loop-init
loop-init c = checking-start _ _ _ _ _ _ _ refl

pub returns-in_default : goal.returns-in_default
returns-in_default c = ap Err c.reject_for.ensures ∙ ap checked_of (checking_short _ _ _ _ _ _ c.loop.counter c.loop.next.at _ c.loop.invariant (omega arith) _ _ (sym c.in_default.ensures))

pub returns-in_err-wanted : goal.returns-in_err-wanted
returns-in_err-wanted c = err_is _ _ c.from_residual.ensures.1 ∙ checking_halts _ _ _ _ _ _ _ _ _ (checking_goes _ _ _ _ _ _ c.loop.counter c.loop.next.at _ c.loop.invariant (omega arith) _ _ (sym c.in-Ok.ensures) _ c.in_err-wanted.ensures) _ refl

pub loop-preserved : goal.loop-preserved
loop-preserved c = checking_goes _ _ _ _ _ _ c.loop.counter c.loop.next.at _ c.loop.invariant (omega arith) _ _ (sym c.in-Ok.ensures) _ c.in_ok-wanted.ensures

pub returns : goal.returns
returns c = c.close.ensures ∙ ap checked_of (checking-end _ _ _ _ _ _ c.loop.counter c.loop.next.at _ c.loop.invariant (omega arith))

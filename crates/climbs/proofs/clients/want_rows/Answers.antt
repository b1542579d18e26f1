use Rattle.std.proofs.Common.{◌+◌, ap, ◌∙◌, arith}
use Rattle.climbs.specs.Row.{came_at}
use Rattle.climbs.specs.ClientsShapes.{want_says, end_says}
use Rattle.climbs.proofs.WaitingLaws.{err_is, pending-none, pending_on, pending-halts, pending-end, ends_said}
use Rattle.climbs.proofs.clients.want_rows.Goals as goal

pub loop-i-init : goal.loop-i-init
loop-i-init c = (omega arith, pending-none _ _)

pub loop-i-preserved : goal.loop-i-preserved
loop-i-preserved c = (omega arith, c.in_ok-wanted.ensures ∙ pending_on (came_at c.args.starts.now c.args.states.now c.args.hashes.now) c.loop-i.i _ _ _ c.loop-i.invariant.1 (ap end_says c.row_end.ensures ∙ ends_said _))

pub returns-in_err-wanted : goal.returns-in_err-wanted
returns-in_err-wanted c = ap want_says (err_is _ _ c.from_residual.ensures.1) ∙ pending-halts (came_at c.args.starts.now c.args.states.now c.args.hashes.now) (c.loop-i.i + 1) _ _ _ (omega arith) (c.in_err-wanted.ensures ∙ pending_on (came_at c.args.starts.now c.args.states.now c.args.hashes.now) c.loop-i.i _ _ _ c.loop-i.invariant.1 (ap end_says c.row_end.ensures ∙ ends_said _))

pub returns : goal.returns
returns c = c.loop-i.invariant.1 ∙ pending-end _ _ _ _ (omega arith)

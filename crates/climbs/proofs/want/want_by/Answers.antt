use Rattle.std.proofs.Common.{sym, ap, ◌∙◌}
use Rattle.spv.specs.Result.{refused}
use Rattle.spv.specs.Shapes.{bound_to}
use Rattle.climbs.specs.ClientsShapes.{want_says}
use Rattle.climbs.proofs.WaitingLaws.{err_is, wanted_stop, wanted_hit, wanted_miss}
use Rattle.climbs.proofs.want.want_by.Goals as goal

pub returns-in_err-root : goal.returns-in_err-root
returns-in_err-root c = ap want_says (err_is _ _ c.from_residual.ensures.1) ∙ wanted_stop _ _ _ c.in_err-root.was

pub returns-then-hits_target : goal.returns-then-hits_target
returns-then-hits_target c = wanted_hit (bound_to c.args.wanted) _ _ c.in_ok-root.was (sym c.hits_target.ensures ∙ c.if-hits_target.true)

pub returns : goal.returns
returns c = ap refused c.reject_for.ensures ∙ wanted_miss (bound_to c.args.wanted) _ _ c.in_ok-root.was (sym c.hits_target.ensures ∙ c.if-hits_target.false)

use native.Mathlib.Omega.{arith}
use mathlib.Core.Path.{sym, ◌∙◌}
use Rattle.format.proofs.Gather.{gather-start, gather-step, gather-refused, gather-done}
use Rattle.format.proofs.ParseLaws.{passed_on, refused_as}
use Rattle.format.proofs.BeefLaws.{bumps-gathered}
use Rattle.format.proofs.bumps.gather_bumps.Goals as goal

pub loop-i-init : goal.loop-i-init
loop-i-init c = rw c.no_bumps-heads.ensures (gather-start _ _ _ _ _ _ _)

pub returns-in_err-head : goal.returns-in_err-head
returns-in_err-head c =
    passed_on _ _ c.from_residual.ensures.1
    ∙ sym (refused_as _ _ _ (gather-refused _ _ _ _ _ _ _ c.loop-i.invariant (omega arith) (sym c.in_err-head.ensures)))

pub loop-i-preserved : goal.loop-i-preserved
loop-i-preserved c =
    gather-step _ _ _ _ _ _ _ c.requires c.loop-i.invariant (omega arith)
    (sym c.in_ok-head.ensures)

pub returns : goal.returns
returns c =
    let d = gather-done _ _ _ _ _ _ _ c.requires c.loop-i.invariant (omega arith) in
    sym (bumps-gathered _ d.0 (d.1 ∙ (omega arith)) d.2)

use native.Mathlib.Omega.{arith}
use mathlib.Core.Path.{sym, ◌∙◌}
use Rattle.format.proofs.SeenLaws.{scan_here, scan_on, scan_end}
use Rattle.format.proofs.leaf.contains.Goals as goal
use Rattle.format.proofs.leaf.contains.Goals.{else-y-x, then-y-x}

pub loop-y-preserved : goal.loop-y-preserved
loop-y-preserved c =
    c.loop-y.invariant
    ∙ elim c.if-y-x.branch [
      | then-y-x w ↦ scan_here c.args.x c.args.l.now c.loop-y.y-index c.loop-y.found c.if-y-x.found (omega arith) (sym w.if-y-x.true) w.found-is
      | else-y-x w ↦ scan_on c.args.x c.args.l.now c.loop-y.y-index c.loop-y.found c.if-y-x.found (omega arith) (λ e. w.if-y-x.false (sym e)) w.found-is
    ]

pub returns : goal.returns
returns c = sym (c.loop-y.invariant ∙ scan_end c.args.x c.args.l.now c.loop-y.y-index c.loop-y.found (omega arith))

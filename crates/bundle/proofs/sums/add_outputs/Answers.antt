use mathlib.Core.Path.{sym}
use native.Mathlib.Omega.{arith}
use Rattle.bundle.proofs.WalkLaws.{adds_end, adds_stuck, adds_none, adds_on}
use Rattle.bundle.proofs.sums.add_outputs.Goals as goal

pub returns-in_default : goal.returns-in_default
returns-in_default c = adds_stuck _ _ c.args.marks.now _ _ _ c.loop-j.invariant.1 (omega arith) c.onward-here.ensures (sym c.in_default.ensures)

pub returns-then-here-lt1 : goal.returns-then-here-lt1
returns-then-here-lt1 c = adds_none _ _ c.args.marks.now _ _ _ c.loop-j.invariant.1 (omega arith) c.onward-here.ensures c.if-here-lt1.true

pub loop-j-preserved : goal.loop-j-preserved
loop-j-preserved c = (omega arith, adds_on _ _ c.args.marks.now _ _ _ c.loop-j.invariant.1 (omega arith) c.onward-here.ensures (sym c.in-Ok.ensures) c.mark_at.ensures c.add_to.ensures)

pub returns : goal.returns
returns c = adds_end _ _ c.args.marks.now _ _ _ c.loop-j.invariant.1 c.loop-j.invariant.0 (omega arith)

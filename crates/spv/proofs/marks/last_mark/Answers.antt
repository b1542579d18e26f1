use Rattle.std.proofs.Common.{arith, sym}
use Rattle.spv.proofs.MarksLaws.{chosen-first, chosen-next}
use Rattle.spv.proofs.marks.last_mark.Goals as goal

pub loop-i-init : goal.loop-i-init
loop-i-init c = chosen-first _ _ _ _ _ c.requires.1

pub loop-i-preserved : goal.loop-i-preserved
loop-i-preserved c = chosen-next _ _ _ _ _ _ (omega arith) c.if-at-eq0.false (sym c.in-Ok.ensures) c.if-position-leaf.false

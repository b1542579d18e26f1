use Rattle.std.proofs.Common.{sym, ◌∙◌, arith}
use Rattle.spv.proofs.MarksLaws.{after_stuck, after_next, after_none}
use Rattle.spv.proofs.marks.place_after.Goals as goal

pub returns-in_default : goal.returns-in_default
returns-in_default c = sym (c.loop.invariant ∙ after_stuck _ _ _ _ (sym c.in_default.ensures))

pub loop-preserved : goal.loop-preserved
loop-preserved c = c.loop.invariant ∙ after_next _ _ _ _ _ (omega arith) (sym c.in-Ok.ensures)

pub returns : goal.returns
returns c = sym (c.loop.invariant ∙ after_none _ _ _ _ (omega arith))

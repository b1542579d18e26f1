use Rattle.spv.proofs.MarksLaws.{Chosen}
use Rattle.spv.proofs.marks.last_mark.Given as goal

abbrev pub invariant-loop-i : goal.invariant-loop-i
invariant-loop-i l = Chosen l.layout l.s l.marks l.base l.position l.i

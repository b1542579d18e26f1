use Rattle.block.proofs.MarksLaws.{Marking}
use Rattle.block.proofs.marks.mark.Given as goal

abbrev pub invariant-loop : goal.invariant-loop
invariant-loop l = Marking l.height l.i l.initial.marks l.marks l.width l.j l.counter

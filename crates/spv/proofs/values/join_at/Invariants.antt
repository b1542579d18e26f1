use Rattle.spv.proofs.MarksLaws.{Filling}
use Rattle.spv.proofs.values.join_at.Given as goal

abbrev pub invariant-loop-y : goal.invariant-loop-y
invariant-loop-y l = Filling l.layout l.s l.places l.marks l.before l.y

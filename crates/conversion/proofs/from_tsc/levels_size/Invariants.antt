use Rattle.conversion.proofs.ConvertLaws.{Counting}
use Rattle.conversion.proofs.from_tsc.levels_size.Given as goal

abbrev pub invariant-loop : goal.invariant-loop
invariant-loop l = Counting l.s l.n l.initial.place.at l.i l.counter l.place.at l.j l.size

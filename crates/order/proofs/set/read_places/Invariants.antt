use Rattle.order.proofs.SetTurns.{Reading}
use Rattle.order.proofs.set.read_places.Given as goal

abbrev pub invariant-loop-i : goal.invariant-loop-i
invariant-loop-i l = Reading l.s l.count l.places l.i l.next.at

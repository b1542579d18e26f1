use Rattle.bundle.proofs.FaultLaws.{Clear}
use Rattle.bundle.proofs.pass.first_fault.Given as goal

abbrev pub invariant-loop-k : goal.invariant-loop-k
invariant-loop-k l = Clear l.numbers l.sums l.fee l.n l.first l.k

use Rattle.bundle.proofs.ReachLaws.{FirstsTo}
use Rattle.bundle.proofs.pass.first_outputs.Given as goal

abbrev pub invariant-loop-k : goal.invariant-loop-k
invariant-loop-k l = FirstsTo l.numbers l.n l.k l.firsts

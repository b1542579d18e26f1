use Rattle.block.proofs.IdsLaws.{Differing}
use Rattle.block.proofs.ids.all_differ.Given as goal

abbrev pub invariant-loop-i : goal.invariant-loop-i
invariant-loop-i l = Differing l.ids l.taken l.i

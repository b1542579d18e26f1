use Rattle.format.specs.Refusals.{MAX_BUMPS}
use Rattle.format.proofs.Gather.{Gathering}
use Rattle.format.specs.Bump.{bump_field, head_of}
use Rattle.format.specs.BeefAnswer.{no_bump}
use Rattle.format.proofs.bumps.gather_bumps.Given as goal

abbrev pub invariant-loop-i : goal.invariant-loop-i
invariant-loop-i l = Gathering bump_field head_of no_bump MAX_BUMPS l.count l.s l.initial.next.at l.heads l.i l.next.at

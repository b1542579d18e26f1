use Rattle.spv.specs.PositionFits.{PositionFits}
use Rattle.spv.specs.Siblings.{path_siblings}
use Rattle.spv.proofs.Turns.{Climbing}
use Rattle.spv.proofs.climb.climb_layers.Given as goal

abbrev pub invariant-loop-k : goal.invariant-loop-k
invariant-loop-k l = Climbing (path_siblings l.s l.path) l.h l.i l.initial.c l.k l.j l.c × PositionFits l.k l.j

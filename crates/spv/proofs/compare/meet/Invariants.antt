use Rattle.std.proofs.Common.{◌+◌}
use Rattle.spv.specs.PositionFits.{PositionFits}
use Rattle.spv.specs.Siblings.{path_siblings}
use Rattle.spv.proofs.Turns.{Pairing}
use Rattle.spv.proofs.compare.meet.Given as goal

abbrev pub invariant-loop-k : goal.invariant-loop-k
invariant-loop-k l = Pairing (path_siblings l.a l.x) (path_siblings l.b l.y) l.e l.x.layers l.i l.initial.c l.initial.d l.k l.j l.c l.d × PositionFits (l.k + l.e) l.j

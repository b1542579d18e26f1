use Rattle.std.proofs.Common.{◌≡◌, length}
use Rattle.encoding.specs.Buffer.{buffer}
use Rattle.spv.specs.PositionFits.{PositionFits}
use Rattle.spv.specs.Siblings.{path_siblings}
use Rattle.spv.proofs.Turns.{Climbing}
use Rattle.spv.proofs.Traces.{Trailing}
use Rattle.spv.proofs.trace.climb_writing.Given as goal

abbrev pub invariant-loop-k : goal.invariant-loop-k
invariant-loop-k l = record {
  climbing : Climbing (path_siblings l.s l.path) l.path.layers l.i l.initial.c l.k l.j l.c;
  fits : PositionFits l.k l.j;
  trailing : Trailing (path_siblings l.s l.path) l.path.layers l.i l.initial.c (buffer l.initial.out 0) l.k l.j l.c (buffer l.out l.next);
  room : length l.out ≡ length l.initial.out;
}

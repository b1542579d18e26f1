-- After each turn the hash value is that of i blocks, or of all.
use Rattle.std.proofs.Common.{◌≡◌}
use Rattle.lanes.specs.Lanes.{after}
use Rattle.lanes.proofs.messages.finish.Given as goal

abbrev pub invariant-loop-i : goal.invariant-loop-i
invariant-loop-i l = l.h ≡ after l.m l.i

use Rattle.std.proofs.Common.{◌≤◌}
use Rattle.climbs.specs.Row.{Under}
use Rattle.climbs.proofs.pass.split.Given as goal

abbrev pub invariant-loop-m : goal.invariant-loop-m
invariant-loop-m l = (l.lo ≤ l.m) × (l.m ≤ l.hi) × Under l.starts l.order l.layer l.position l.lo l.m

use Rattle.std.proofs.Common.{◌≡◌, ◌-◌}
use Rattle.spv.specs.Depth.{halved}
use Rattle.spv.proofs.depth.halve.Given as goal

abbrev pub invariant-loop : goal.invariant-loop
invariant-loop l = halved (l.n - l.counter) l.j ≡ halved l.n l.position

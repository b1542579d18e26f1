use Rattle.std.proofs.Common.{◌≡◌, ◌-◌}
use Rattle.spv.specs.Marks.{after}
use Rattle.spv.proofs.marks.place_after.Given as goal

abbrev pub invariant-loop : goal.invariant-loop
invariant-loop l = after l.layout l.s l.count l.initial.next.at ≡ after l.layout l.s (l.count - l.counter) l.next.at

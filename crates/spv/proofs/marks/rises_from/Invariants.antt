use Rattle.std.proofs.Common.{◌≡◌, true, ◌-◌}
use Rattle.spv.specs.Marks.{rises}
use Rattle.spv.proofs.marks.rises_from.Given as goal

abbrev pub invariant-loop : goal.invariant-loop
invariant-loop l = rises l.layout l.s (l.count - l.counter) l.next.at l.low ≡ true → rises l.layout l.s l.count l.initial.next.at 0 ≡ true

use Rattle.std.proofs.Common.{◌≡◌, true, ◌-◌}
use Rattle.path.specs.Search.{seek}
use Rattle.spv.specs.Marks.{rises}
use Rattle.spv.proofs.marks.seek_rising.Given as goal

abbrev pub invariant-loop : goal.invariant-loop
invariant-loop l = (seek l.layout l.position l.count l.s l.initial.next.at ≡ seek l.layout l.position (l.count - l.counter) l.s l.next.at) × (rises l.layout l.s (l.count - l.counter) l.next.at 0 ≡ true)

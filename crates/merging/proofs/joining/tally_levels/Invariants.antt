use Prim.Native.Nat.{◌-◌, ◌*◌, ◌≤◌}
use Rattle.merging.specs.Levels.{walk_levels}
use Rattle.merging.proofs.LevelsLaws.{Summing}
use Rattle.merging.proofs.joining.tally_levels.Given as goal

abbrev pub invariant-loop : goal.invariant-loop
invariant-loop l = Summing l.tally (walk_levels l.s l.t (l.height - l.counter) l.p.at l.q.at) (walk_levels l.s l.t l.height l.initial.p.at l.initial.q.at) × (l.counter ≤ l.height) × (l.height ≤ 64) × (l.tally.bytes ≤ 86025 * l.counter) × (l.tally.leaves ≤ 2048 * l.counter)

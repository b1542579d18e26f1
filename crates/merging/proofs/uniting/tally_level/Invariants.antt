use lib.ListN.{drop}
use Prim.Native.Nat.{◌-◌, ◌*◌, ◌≤◌}
use Rattle.levels.specs.Fronts.{standing_of}
use Rattle.levels.specs.Places.{entries}
use Rattle.levels.specs.Standing.{nothing}
use Rattle.merging.specs.Walk.{walk_spots}
use Rattle.merging.proofs.TallyLaws.{Tallying}
use Rattle.merging.proofs.uniting.tally_level.Given as goal

abbrev pub invariant-loop : goal.invariant-loop
invariant-loop l = Tallying l.tally (walk_spots (2048 - l.counter) l.last (standing_of l.s l.first) (standing_of l.t l.second) (entries l.s (drop l.i l.x)) (entries l.t (drop l.j l.y))) (walk_spots 2048 0 nothing nothing (entries l.s l.x) (entries l.t l.y)) × (l.counter ≤ 2048) × (l.tally.count ≤ l.counter) × (l.tally.bytes ≤ 42 * l.counter)

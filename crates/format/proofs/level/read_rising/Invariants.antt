use Prim.Native.Nat.{◌≤◌, ◌+◌}
use lib.ListN.{length}
use Rattle.format.specs.Parse.{each}
use Rattle.format.specs.Level.{leaf_fields}
use Rattle.format.proofs.SeenLaws.{Risen}
use Rattle.format.proofs.level.read_rising.Given as goal

abbrev pub invariant-loop : goal.invariant-loop
invariant-loop l = (l.counter ≤ l.count) × Risen l.layout (l.greatest + 1) l.level l.count l.s (each length (leaf_fields l.layout (l.greatest + 1) l.level l.count l.s l.c.at)) l.counter l.least l.next.at

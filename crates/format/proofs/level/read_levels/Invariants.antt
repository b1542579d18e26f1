use mathlib.Core.Path.{◌≡◌}
use Prim.Native.Nat.{◌≤◌, ◌*◌}
use Rattle.format.specs.Level.{level_fields, total}
use Rattle.format.proofs.LevelLaws.{summing}
use Rattle.format.specs.Parse.{each}
use Rattle.format.specs.Refusals.{MAX_LEAVES}
use Rattle.format.proofs.level.read_levels.Given as goal

abbrev pub invariant-loop-i : goal.invariant-loop-i
invariant-loop-i l = (l.i ≤ l.height) × (l.leaves ≤ MAX_LEAVES * l.i) × (each total (level_fields l.layout l.height l.s l.initial.next.at) ≡ summing l.layout l.height l.s l.i l.leaves l.next.at)

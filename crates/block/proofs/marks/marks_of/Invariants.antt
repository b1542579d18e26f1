use mathlib.Core.Path.{◌≡◌}
use Prim.Native.Nat.{◌≤◌}
use lib.ListN.{length}
use Rattle.block.proofs.MarksLaws.{Passed}
use Rattle.block.proofs.marks.marks_of.Given as goal

abbrev pub invariant-loop-position : goal.invariant-loop-position
invariant-loop-position l = Passed l.marks l.chosen l.height l.position-index × (l.position-index ≤ length l.chosen) × (length l.marks ≡ 2048)

use lib.ListN.{length}
use Prim.Native.Nat.{◌-◌, ◌≤◌}
use Rattle.leaflist.specs.Rows.{filling, put_rows, listed_in}
use mathlib.Core.Path.{◌≡◌}
use Rattle.leaflist.proofs.building.put_levels.Given as goal

abbrev pub invariant-loop-level : goal.invariant-loop-level
invariant-loop-level l = (put_rows (filling l.initial.out l.initial.at) (listed_in 1024 l.s l.level-end 0 l.initial.next.at) ≡ put_rows (filling l.out l.at) (listed_in 1024 l.s (l.level-end - l.level) l.level l.next.at)) × (l.level ≤ l.level-end) × (length l.out ≡ length l.initial.out)

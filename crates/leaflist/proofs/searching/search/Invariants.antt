use Rattle.leaflist.proofs.SearchLaws.{Narrowed}
use Prim.Native.Nat.{◌-◌, ◌≤◌, ◌/◌}
use lib.ListN.{length}
use Rattle.leaflist.proofs.searching.search.Given as goal

abbrev pub invariant-loop-low : goal.invariant-loop-low
invariant-loop-low l = Narrowed l.list l.level l.offset l.low l.high × (l.high ≤ length l.list / 3)

abbrev pub decreases-loop-low : goal.decreases-loop-low
decreases-loop-low l = l.high - l.low

use lib.ListN.{length, drop}
use Prim.Native.Nat.{◌≤◌}
use mathlib.Core.List.{map}
use Rattle.leaflist.specs.Rows.{filling, put_rows}
use Rattle.leaflist.specs.LeafList.{row_at}
use mathlib.Core.Path.{◌≡◌}
use Rattle.leaflist.proofs.building.put_rows.Given as goal

abbrev pub invariant-loop-place : goal.invariant-loop-place
invariant-loop-place l = (put_rows (filling l.initial.out l.initial.at) (map (row_at l.s l.level) l.places) ≡ put_rows (filling l.out l.at) (map (row_at l.s l.level) (drop l.place-index l.places))) × (l.place-index ≤ length l.places) × (length l.out ≡ length l.initial.out)

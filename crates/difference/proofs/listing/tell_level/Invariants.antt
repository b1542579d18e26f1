use Rattle.difference.specs.Merge.{merged}
use Rattle.levels.specs.Places.{entries}
use Rattle.difference.specs.Filling.{filling, put_all}
use lib.ListN.{length, drop}
use Prim.Native.Nat.{◌-◌, ◌≤◌}
use mathlib.Core.Path.{◌≡◌}
use Rattle.difference.proofs.listing.tell_level.Given as goal

abbrev pub invariant-loop : goal.invariant-loop
invariant-loop l =
    (put_all l.write (filling l.initial.out l.initial.at) (merged 2048 l.level (entries l.s l.x) (entries l.t l.y)) ≡ put_all l.write (filling l.out l.at) (merged (2048 - l.counter) l.level (entries l.s (drop l.i l.x)) (entries l.t (drop l.j l.y))))
    × (l.counter ≤ 2048)
    × (length l.out ≡ length l.initial.out)

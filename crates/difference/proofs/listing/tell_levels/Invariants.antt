use Rattle.difference.specs.Merge.{walk}
use Rattle.difference.specs.Filling.{filling}
use lib.ListN.{length}
use Prim.Native.Nat.{◌-◌, ◌≤◌}
use mathlib.Core.Path.{◌≡◌}
use Rattle.difference.proofs.listing.tell_levels.Given as goal

abbrev pub invariant-loop-level : goal.invariant-loop-level
invariant-loop-level l =
    (walk l.write l.s l.x.height 1024 l.t l.y.height 1024 l.level-end 0 l.initial.c.at l.initial.d.at (filling l.initial.out l.initial.at) ≡ walk l.write l.s l.x.height 1024 l.t l.y.height 1024 (l.level-end - l.level) l.level l.c.at l.d.at (filling l.out l.at))
    × (l.level ≤ l.level-end)
    × (length l.out ≡ length l.initial.out)

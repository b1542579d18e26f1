use mathlib.Core.Path.{◌≡◌}
use mathlib.Core.Bool.{◌||◌}
use lib.ListN.{drop}
use Rattle.format.specs.Level.{holds}
use Rattle.format.proofs.leaf.contains.Given as goal

abbrev pub invariant-loop-y : goal.invariant-loop-y
invariant-loop-y l = holds l.x l.l ≡ (l.found || holds l.x (drop l.y-index l.l))

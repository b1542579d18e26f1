use mathlib.Core.Path.{◌≡◌}
use Rattle.spv.specs.Hashes.{searching}
use Rattle.block.proofs.ids.among_from.Given as goal

abbrev pub invariant-loop-i : goal.invariant-loop-i
invariant-loop-i l = searching l.id l.ids l.i ≡ searching l.id l.ids l.«from»

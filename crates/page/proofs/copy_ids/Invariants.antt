use mathlib.Core.Path.{◌≡◌}
use lib.ListN.{length}
use Rattle.page.specs.Flat.{Copied}
use Rattle.page.proofs.copy_ids.Given as goal

abbrev pub invariant-loop-row : goal.invariant-loop-row
invariant-loop-row l = (length l.roots ≡ length l.initial.roots) × Copied l.ids l.row l.roots

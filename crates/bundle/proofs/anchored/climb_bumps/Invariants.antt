use Prim.Native.Nat.{ℕ, ◌+◌, ◌≤◌, ◌<◌}
use mathlib.Core.Path.{◌≡◌}
use lib.ListN.{length, get_or}
use Rattle.format.specs.Refusals.{MAX_BUMPS}
use Rattle.bundle.specs.Anchored.{Right}
use Rattle.bundle.proofs.anchored.climb_bumps.Given as goal

abbrev pub invariant-loop-b : goal.invariant-loop-b
invariant-loop-b l = (length l.bumps ≡ MAX_BUMPS) × (l.b ≤ l.last) × (l.last + 1 ≡ l.count) × ((i : ℕ) → i < l.n → get_or l.anchors i 0 < l.b → Right l.s l.roots l.bumps l.anchors l.ids l.ends i)

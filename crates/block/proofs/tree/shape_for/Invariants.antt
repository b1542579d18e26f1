use mathlib.Core.Path.{◌≡◌}
use Prim.Native.Nat.{ℕ, ◌<◌, ◌-◌, ◌^◌}
use Rattle.block.proofs.tree.shape_for.Given as goal

abbrev pub invariant-loop-width : goal.invariant-loop-width
invariant-loop-width l = (l.width ≡ 2 ^ l.height) × ((g : ℕ) → g < l.height → 2 ^ g < l.n) × (l.height < l.width)

abbrev pub decreases-loop-width : goal.decreases-loop-width
decreases-loop-width l = l.n - l.width

-- Positions that fit: those of layer k below 2 ^ (64 - k), so that the positions of their children fit as well.
use Rattle.std.specs.Prelude.{ℕ, ◌-◌, ◌^◌, ◌<◌}

unfoldable pub PositionFits : ℕ → ℕ → Type 0
PositionFits k q = q < 2 ^ (64 - k)

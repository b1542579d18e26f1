use Rattle.std.proofs.Common.{ℕ, ◌/◌, ◌^◌, ◌<◌, sym, ap, ◌∙◌, arith}
use native.Mathlib.Nat.{div-eq_of_lt}
use Rattle.climbs.proofs.row.above.Goals as goal

pub returns-then-layers-eq64 : goal.returns-then-layers-eq64
returns-then-layers-eq64 c = let f : c.args.x < 2 ^ 64 = omega arith in sym (ap (λ (n : ℕ). c.args.x / 2 ^ n) c.if-layers-eq64.true ∙ div-eq_of_lt f)

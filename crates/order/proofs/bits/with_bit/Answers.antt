use mathlib.Core.Path.{sym, ap, ◌∙◌}
use Prim.Native.Nat.{ℕ, ◌+◌, ◌^◌, ◌<◌}
use native.Mathlib.Omega.{arith}
use Rattle.order.proofs.BitsLaws.{with_there, with_added, bit-fits}
use Rattle.order.proofs.bits.with_bit.Goals as goal

pub returns-then-has_bit : goal.returns-then-has_bit
returns-then-has_bit c = with_there c.args.b c.args.x (sym c.has_bit.ensures ∙ c.if-has_bit.true)

pub overflow_add-result : goal.overflow_add-result
overflow_add-result c =
    let low : c.args.x < 256 = omega arith in
    let h : c.args.x + 2 ^ c.args.b < 256 = bit-fits 8 c.args.b c.args.x (omega arith) low (sym c.has_bit.ensures ∙ c.if-has_bit.false) in
    record { fits = omega arith }

pub returns : goal.returns
returns c = ap (λ (y : ℕ). c.args.x + y) c.power.ensures ∙ with_added c.args.b c.args.x (sym c.has_bit.ensures ∙ c.if-has_bit.false)

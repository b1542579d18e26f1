use native.Mathlib.Omega.{arith}
use mathlib.Core.Path.{◌≡◌, ap, sym, ◌∙◌}
use Prim.Native.Nat.{ℕ, ◌+◌, ◌-◌}
use lib.ListN.{take, drop}
use Rattle.format.proofs.BytesLaws.{hash-there, hash-none}
use Rattle.format.proofs.bytes.hash_at.Goals as goal

pub returns-then-s-place : goal.returns-then-s-place
returns-then-s-place c = sym (hash-none _ _ (omega arith))

pub returns-then-s-place-lt32 : goal.returns-then-s-place-lt32
returns-then-s-place-lt32 c = sym (hash-none _ _ (omega arith))

pub returns : goal.returns
returns c =
    let size : c.args.place + 32 - c.args.place ≡ 32 = omega arith in
    c.copy_from_slice.ensures.after ∙ ap (λ (n : ℕ). take n (drop c.args.place c.args.s.now)) size ∙ sym (hash-there _ _ (omega arith))

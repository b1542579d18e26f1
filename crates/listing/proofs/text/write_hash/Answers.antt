use mathlib.Core.Path.{◌≡◌, refl, sym, ap, ◌∙◌}
use Prim.Native.Nat.{ℕ, ◌-◌, ◌+◌}
use lib.ListN.{get_or}
use native.Mathlib.Omega.{arith}
use borrow.Author.Rules.{rules}
use Rattle.listing.proofs.TextLaws.{printed-start, printed_on, printed-end}
use Rattle.listing.proofs.text.write_hash.Goals as goal

pub loop-i-init : goal.loop-i-init
loop-i-init c = (printed-start _ _ 32 (search rules), omega arith, refl)

pub loop-i-preserved : goal.loop-i-preserved
loop-i-preserved c =
    let next : 31 - c.loop-i.i ≡ 32 - (c.loop-i.i + 1) = omega arith in
    let b = c.from-b.ensures ∙ ap (λ (k : ℕ). get_or c.args.hash k 0) next in (
      c.loop-i.invariant.0 ∙ printed_on _ c.args.hash (32 - c.loop-i.i) (32 - (c.loop-i.i + 1)) (omega arith) (omega arith) b c.digit.ensures c.put-next.ensures c.digit-in-loop-i.ensures c.put-next-in-loop-i.ensures,
      omega arith,
      c.put-next-in-loop-i.auto.out ∙ c.put-next.auto.out ∙ c.loop-i.invariant.2,
    )

pub returns : goal.returns
returns c = sym (c.loop-i.invariant.0 ∙ printed-end _ _ _ (omega arith))

use mathlib.Core.Path.{◌≡◌, ◌∙◌}
use Prim.Native.Nat.{◌+◌, ◌*◌}
use native.Mathlib.Omega.{arith}
use Rattle.spv.proofs.SpansLaws.{hashed-none, hashed-enough, hashed-four}
use Rattle.order.proofs.SetTurns.{ids_made_lem}
use Rattle.order.proofs.set.write_ids.Goals as goal

pub loop-k-init : goal.loop-k-init
loop-k-init c = (c.told-ids, hashed-none _ _ _)

pub loop-k-preserved : goal.loop-k-preserved
loop-k-preserved c =
    let n : 4 * c.loop-k.k + 4 ≡ 4 * (c.loop-k.k + 1) = omega arith in (
      c.set_four.auto.list ∙ c.loop-k.invariant.0,
      rw (c.set_four.ensures, ← n) (hashed-four _ _ _ _ _ _ _ _ _ c.loop-k.invariant.1 c.between-a.ensures c.between-b.ensures c.between-c.ensures c.between-d.ensures c.span_hashes-four.ensures),
    )

pub returns : goal.returns
returns c = ids_made_lem _ _ c.loop-k.ids _ (omega arith) (hashed-enough _ _ c.loop-k.ids (omega arith) c.loop-k.invariant.1)

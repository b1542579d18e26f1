use native.Mathlib.Omega.{arith}
use borrow.Author.Rules.{rules}
use Rattle.bundle.proofs.AnchoredLaws.{rows_none, rows_more}
use Rattle.bundle.proofs.anchored.settle_rows.Goals as goal

pub loop-r-init : goal.loop-r-init
loop-r-init c = (search rules, search rules, rows_none _ _ _ _ _ _ _ _ _ _)

pub loop-r-preserved : goal.loop-r-preserved
loop-r-preserved c =
    let low = c.fits-slots c.loop-r.r in (
      search rules,
      search rules,
      rw c.put_end.ensures (rows_more _ _ _ _ _ _ _ _ _ _ _ _ _ _ _ c.loop-r.invariant.2 c.hash_at-id.ensures c.proved_at-proved.ensures c.trust-ruling.ensures (omega arith)),
    )

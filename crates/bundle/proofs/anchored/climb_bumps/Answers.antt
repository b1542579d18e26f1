use borrow.Author.Rules.{rules}
use native.Mathlib.Omega.{arith}
use Rattle.bundle.proofs.AnchoredLaws.{risen_on}
use Rattle.bundle.proofs.anchored.climb_bumps.Goals as goal

pub loop-b-preserved : goal.loop-b-preserved
loop-b-preserved c = (
  c.loop-b.invariant.0,
  search rules,
  c.loop-b.invariant.2,
  risen_on _ _ _ _ _ _ _ _ _ c.climb_bump.ensures c.loop-b.invariant.3,
)

pub returns : goal.returns
returns c = λ i low named. risen_on _ _ _ _ _ _ _ _ _ c.climb_bump-2.ensures (λ k inside less. c.loop-b.invariant.3 k inside (omega arith)) i low (omega arith)

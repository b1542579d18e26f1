use Rattle.leaflist.proofs.SearchLaws.{narrow_start, narrow-up, narrow-down, narrow-here, narrow-end}
use native.Mathlib.Omega.{arith}
use mathlib.Core.Path.{sym}
use Rattle.leaflist.proofs.searching.search.Goals as goal

pub loop-low-init : goal.loop-low-init
loop-low-init c = (narrow_start _ _ _, omega arith)

pub loop-low-preserved-in-Less : goal.loop-low-preserved-in-Less
loop-low-preserved-in-Less c = (narrow-up _ _ _ _ _ _ c.loop-low.invariant.0 (omega arith) (sym c.in-Less.ensures), c.loop-low.invariant.1)

pub loop-low-preserved : goal.loop-low-preserved
loop-low-preserved c = (
  narrow-down _ _ _ _ _ _ c.loop-low.invariant.0 (omega arith) (sym c.in-Greater.ensures),
  omega arith,
)

pub returns-in-Equal : goal.returns-in-Equal
returns-in-Equal c = narrow-here _ _ _ _ (omega arith) (sym c.in-Equal.ensures)

pub returns : goal.returns
returns c = narrow-end _ _ _ _ _ c.loop-low.invariant.0 c.loop-low-test.false

use native.Mathlib.Omega.{arith}
use mathlib.Core.Path.{sym, ◌∙◌}
use Rattle.block.proofs.HeapLaws.{level-start, level-small, level_on, climb_start, climb_twin, climb_on, climb_end}
use Rattle.block.proofs.tree.climb_from.Goals as goal

pub loop-k-init : goal.loop-k-init
loop-k-init c = (level-start _ _ (omega arith), omega arith, λ g b. climb_start g _ b)

pub has_twin-requires : goal.has_twin-requires
has_twin-requires c = let w = level-small _ _ _ c.loop-k.invariant.0 (omega arith) (omega arith) in (omega arith, omega arith)

pub returns-then-has_twin : goal.returns-then-has_twin
returns-then-has_twin c = λ g b. rw c.number.ensures (climb_twin g _ _ _ c.loop-k.invariant.0 (omega arith) (c.loop-k.invariant.2 g b).inside _ (sym c.has_twin.ensures ∙ c.if-has_twin.true) (c.loop-k.invariant.2 g b) c.sibling_position.ensures)

pub loop-k-preserved : goal.loop-k-preserved
loop-k-preserved c = (level_on _ _ _ c.loop-k.invariant.0 (omega arith), omega arith, λ g b. climb_on g _ _ _ c.loop-k.invariant.0 (omega arith) (c.loop-k.invariant.2 g b).inside _ (sym c.has_twin.ensures ∙ c.if-has_twin.false) (c.loop-k.invariant.2 g b))

pub returns : goal.returns
returns c = λ g b. climb_end _ _ _ _ _ (omega arith) (c.loop-k.invariant.2 g b)

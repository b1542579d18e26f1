use native.Mathlib.Omega.{arith}
use mathlib.Core.Path.{refl}
use Rattle.block.proofs.HeapLaws.{building-start, building-wide, building_on}
use Rattle.block.proofs.tree.build.Goals as goal

pub loop-k-init : goal.loop-k-init
loop-k-init c = building-start _ _ _ _ _ (omega arith) (omega arith) (omega arith)

pub raise-requires : goal.raise-requires
raise-requires c = let w = building-wide _ _ _ _ _ _ _ c.loop-k.invariant (omega arith) (omega arith) in (w.0, w.1, w.2)

pub overflow_add-count : goal.overflow_add-count
overflow_add-count c = let w = building-wide _ _ _ _ _ _ _ c.loop-k.invariant (omega arith) (omega arith) in omega arith

pub loop-k-preserved : goal.loop-k-preserved
loop-k-preserved c = building_on _ _ _ _ _ _ _ c.loop-k.invariant (omega arith) _ _ _ c.raise.ensures.rises c.raise.ensures.keeps refl refl

pub returns : goal.returns
returns c = λ m d. c.loop-k.invariant.stand m (omega arith)

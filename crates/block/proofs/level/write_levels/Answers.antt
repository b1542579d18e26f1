use native.Mathlib.Omega.{arith}
use mathlib.Core.Path.{refl, ◌∙◌}
use Rattle.block.proofs.HeapLaws.{level-start, level-small, level_on}
use Rattle.block.proofs.LevelLaws.{count-start, count_on, written_on, written-end}
use Rattle.block.proofs.level.write_levels.Goals as goal

pub loop-k-init : goal.loop-k-init
loop-k-init c = (level-start _ _ (omega arith), omega arith, refl, λ chosen r. (count-start _ _ r.count, refl))

pub write_level-next-requires : goal.write_level-next-requires
write_level-next-requires c = let w = level-small _ _ _ c.loop-k.invariant.0 (omega arith) (omega arith) in (w.0, w.1)

pub loop-k-preserved : goal.loop-k-preserved
loop-k-preserved c = (level_on _ _ _ c.loop-k.invariant.0 (omega arith), omega arith, c.write_level-next.auto.out ∙ c.loop-k.invariant.2, λ chosen r. let i = c.loop-k.invariant.3 chosen r in (count_on _ _ _ i.0, i.1 ∙ written_on r _ _ _ c.loop-k.invariant.0 (omega arith) i.0 _ c.write_level-next.ensures))

pub shape_of-out : goal.shape_of-out
shape_of-out c = c.loop-k.invariant.2

pub returns : goal.returns
returns c = λ chosen r. written-end _ _ _ _ (omega arith) _ (c.loop-k.invariant.3 chosen r).1

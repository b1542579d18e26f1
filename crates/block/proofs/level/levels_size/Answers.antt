use native.Mathlib.Omega.{arith}
use mathlib.Core.Path.{ap, ◌∙◌}
use Prim.Native.Nat.{ℕ}
use lib.ListN.{length}
use Rattle.encoding.specs.Digits.{varint_bytes}
use Rattle.encoding.proofs.VarintEncoding.{varint-length}
use Rattle.block.proofs.HeapLaws.{level-start, level-small, level_on}
use Rattle.block.proofs.LevelLaws.{count-start, count_on, sized_on, sized-end}
use Rattle.block.proofs.level.levels_size.Goals as goal

pub loop-k-init : goal.loop-k-init
loop-k-init c = (level-start _ _ (omega arith), omega arith, omega arith, λ list heap chosen r. (count-start _ _ r.count, omega arith))

pub level_tally-tally-requires : goal.level_tally-tally-requires
level_tally-tally-requires c = let w = level-small _ _ _ c.loop-k.invariant.0 (omega arith) (omega arith) in (w.0, w.1)

pub overflow_add-size : goal.overflow_add-size
overflow_add-size c = omega (arith, varint-length c.level_tally-tally.result.leaves)

pub overflow_add-size-in-loop-k : goal.overflow_add-size-in-loop-k
overflow_add-size-in-loop-k c = omega (arith, varint-length c.level_tally-tally.result.leaves)

pub loop-k-preserved : goal.loop-k-preserved
loop-k-preserved c = (level_on _ _ _ c.loop-k.invariant.0 (omega arith), omega arith, omega (arith, varint-length c.level_tally-tally.result.leaves), λ list heap chosen r. let i = c.loop-k.invariant.3 list heap chosen r in (count_on _ _ _ i.0, sized_on r _ _ _ c.loop-k.invariant.0 (omega arith) i.0 _ (c.varint_size.ensures ∙ ap (λ (x : ℕ). length (varint_bytes x)) c.level_tally-tally.ensures.0) c.level_tally-tally.ensures.1 ∙ i.1))

pub returns : goal.returns
returns c = (omega arith, λ list heap chosen r. sized-end _ _ _ _ (omega arith) _ (c.loop-k.invariant.3 list heap chosen r).1)

use Rattle.std.proofs.Common.{arith, sym}
use Rattle.spv.proofs.PositionFitsLaws.{low-start, low_half}
use Rattle.spv.proofs.Turns.{climbing_start, climbing_end, climbing_up, climbing_stop}
use Rattle.spv.proofs.climb.climb_layers.Goals as goal

pub loop-k-init : goal.loop-k-init
loop-k-init c = (climbing_start _ _ _ _, low-start _ (omega arith))

pub loop-k-preserved : goal.loop-k-preserved
loop-k-preserved c = (
  climbing_up _ _ _ _ _ _ _ c.loop-k.invariant.0 (omega arith) _ _ (sym c.in-Ok.ensures) _ c.parent_of-c.ensures,
  low_half _ _ c.loop-k.invariant.1,
)

pub returns-in-Err : goal.returns-in-Err
returns-in-Err c = rw c.number.ensures (climbing_stop _ _ _ _ _ _ _ c.loop-k.invariant.0 (omega arith) _ (sym c.in-Err.ensures) _ c.sibling_position.ensures)

pub returns : goal.returns
returns c = climbing_end _ _ _ _ _ _ _ c.loop-k.invariant.0 (omega arith)

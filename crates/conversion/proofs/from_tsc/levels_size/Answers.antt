use mathlib.Core.Path.{sym}
use Rattle.encoding.proofs.VarintEncoding.{varint-length}
use native.Mathlib.Omega.{arith}
use Rattle.conversion.proofs.ConvertLaws.{counting-start, counting-end, counting_short, counting_on}
use Rattle.conversion.proofs.from_tsc.levels_size.Goals as goal

pub loop-init : goal.loop-init
loop-init c = counting-start _ _ _ _

pub returns-in_default : goal.returns-in_default
returns-in_default c = (counting_short _ _ _ _ _ _ _ _ c.loop.invariant (omega arith) (sym c.in_default.ensures), omega arith)

pub overflow_add-size : goal.overflow_add-size
overflow_add-size c = let y = varint-length c.sibling_position.result in omega arith

pub overflow_add-size-in-loop : goal.overflow_add-size-in-loop
overflow_add-size-in-loop c = let y = varint-length c.sibling_position.result in omega arith

pub overflow_add-size-in-loop-2 : goal.overflow_add-size-in-loop-2
overflow_add-size-in-loop-2 c = let y = varint-length c.sibling_position.result in omega arith

pub loop-preserved : goal.loop-preserved
loop-preserved c = counting_on _ _ _ _ _ _ _ _ c.loop.invariant (omega arith) (sym c.in-Ok.ensures) c.sibling_position.ensures c.varint_size.ensures (c.node_size.ensures.0 _)

pub returns : goal.returns
returns c = (counting-end _ _ _ _ _ _ _ _ c.loop.invariant (omega arith), omega arith)

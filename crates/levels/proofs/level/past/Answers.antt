use Rattle.std.proofs.Common.{◌<◌, length, arith}
use Rattle.levels.proofs.FrontsLaws.{index-inside, index-here, index-other}
use Rattle.levels.proofs.level.past.Goals as goal

pub overflow_add-result : goal.overflow_add-result
overflow_add-result c =
    let h : c.args.i < length c.args.places.now = index-inside c.args.s.now _ _ _ c.next_offset.ensures c.eq.ensures c.if-eq.true in
    omega arith

pub returns-then-eq : goal.returns-then-eq
returns-then-eq c = index-here _ _ _ _ c.next_offset.ensures c.eq.ensures c.if-eq.true

pub returns-else-eq : goal.returns-else-eq
returns-else-eq c = index-other _ _ _ _ c.next_offset.ensures c.eq.ensures c.if-eq.false

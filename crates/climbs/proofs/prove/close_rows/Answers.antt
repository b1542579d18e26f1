use Rattle.std.proofs.Common.{◌∙◌, arith}
use Rattle.climbs.proofs.ProofsLaws.{closed-more, closed-end}
use Rattle.climbs.proofs.prove.close_rows.Goals as goal

pub loop-i-preserved : goal.loop-i-preserved
loop-i-preserved c = (closed-more c.loop-i.i _ _ c.loop-i.states c.loop-i.hashes _ _ c.loop-i.invariant.0 (omega arith) (omega arith) c.close_row.ensures.0 c.close_row.ensures.1, c.close_row.auto.states ∙ c.loop-i.invariant.1, c.close_row.auto.hashes ∙ c.loop-i.invariant.2, omega arith, c.loop-i.invariant.4)

pub returns : goal.returns
returns c = closed-end c.loop-i.i _ _ _ _ _ (omega arith) c.loop-i.invariant.0

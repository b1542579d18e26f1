use Rattle.std.proofs.Common.{◌∙◌}
use Rattle.climbs.proofs.RowLaws.{moved_on}
use Rattle.climbs.proofs.SpentLaws.{spent_on}
use Rattle.climbs.proofs.rise.rise_rows.Goals as goal

pub loop-row-preserved : goal.loop-row-preserved
loop-row-preserved c = (c.rise4.auto.states ∙ c.loop-row.invariant.0, c.rise4.auto.hashes ∙ c.loop-row.invariant.1, c.loop-row.invariant.2, moved_on _ _ _ _ _ _ _ _ _ c.loop-row.invariant.3 c.rise4.ensures.0, spent_on _ _ _ _ _ _ _ _ _ _ _ _ c.loop-row.invariant.4 c.rise4.ensures.1)

pub returns : goal.returns
returns c = (c.loop-row.invariant.3, c.loop-row.invariant.4)

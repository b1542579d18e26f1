use Rattle.std.proofs.Common.{◌+◌, ◌∙◌, arith}
use Rattle.climbs.proofs.RowLaws.{moved_on, moved_up}
use Rattle.climbs.proofs.SpentLaws.{spent_on, spent-up}
use Rattle.climbs.proofs.rise.rise4.Goals as goal

pub returns-then-not-layer_rows : goal.returns-then-not-layer_rows
returns-then-not-layer_rows c = (moved_on _ _ _ _ _ _ _ _ _ c.loop-k.invariant.3 (moved_up _ (c.loop-k.k + 1) c.args.layers _ _ _ _ _ (omega arith) c.layer_rows.ensures.0), spent_on _ _ _ _ _ _ _ _ _ _ _ _ c.loop-k.invariant.4 (spent-up _ (c.loop-k.k + 1) c.args.layers _ _ _ _ _ _ _ (omega arith) c.layer_rows.ensures.1))

pub loop-k-preserved : goal.loop-k-preserved
loop-k-preserved c = (c.layer_rows.auto.states ∙ c.loop-k.invariant.0, c.layer_rows.auto.hashes ∙ c.loop-k.invariant.1, (omega arith), moved_on _ _ _ _ _ _ _ _ _ c.loop-k.invariant.3 (moved_up _ (c.loop-k.k + 1) c.args.layers _ _ _ _ _ (omega arith) c.layer_rows.ensures.0), spent_on _ _ _ _ _ _ _ _ _ _ _ _ c.loop-k.invariant.4 (spent-up _ (c.loop-k.k + 1) c.args.layers _ _ _ _ _ _ _ (omega arith) c.layer_rows.ensures.1))

pub returns : goal.returns
returns c = (c.loop-k.invariant.3, c.loop-k.invariant.4)

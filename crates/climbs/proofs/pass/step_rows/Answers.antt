use Rattle.std.proofs.Common.{◌≡◌, refl, ◌∙◌, arith}
use Rattle.climbs.specs.Row.{Rows}
use Rattle.climbs.proofs.PassLaws.{all_none, all_more, all_end, charged_none, charged_both}
use Rattle.climbs.proofs.pass.step_rows.Goals as goal

pub loop-i-init : goal.loop-i-init
loop-i-init c = (refl, refl, omega arith, c.requires.0, all_none _ _ _ _ _ _ _ _ _, charged_none _ _ _ _ _ _ _ _, refl)

pub step_row-requires : goal.step_row-requires
unfolding Rows
step_row-requires c = (c.requires.2 c.loop-i.i (omega arith), omega arith, omega arith, c.requires.5)

pub loop-i-preserved : goal.loop-i-preserved
loop-i-preserved c = (c.step_row.auto.states ∙ c.loop-i.invariant.0, c.step_row.auto.hashes ∙ c.loop-i.invariant.1, omega arith, omega arith, all_more _ _ _ _ _ _ _ _ _ _ _ _ _ _ c.loop-i.invariant.2 c.loop-i.invariant.4 c.step_row.ensures.0, charged_both _ _ _ _ _ _ _ _ _ _ _ _ _ _ c.loop-i.invariant.5 c.step_row.ensures.1, c.step_row.auto.costs ∙ c.loop-i.invariant.6)

pub returns : goal.returns
returns c = let e : c.loop-i.i ≡ c.args.hi = omega arith in (all_end _ _ _ _ _ _ _ _ _ _ _ _ _ e c.loop-i.invariant.4, c.loop-i.invariant.5)

use Rattle.std.proofs.Common.{sym, ◌∙◌}
use Rattle.levels.proofs.FrontsLaws.{spot-end, spot-other, spot_stuck, spot-here}
use Rattle.levels.proofs.level.front.Goals as goal

pub returns-in_err-place : goal.returns-in_err-place
returns-in_err-place c = c.from_residual.ensures ∙ sym (spot-end _ _ _ _ c.in_err-place.ensures.lookup.3)

pub returns-then-offset_at-offset : goal.returns-then-offset_at-offset
returns-then-offset_at-offset c =
    let at = c.in_ok-place.ensures.lookup in
    sym (spot-other _ _ _ at.3.0 (at.3.1 0) c.offset_at.ensures _ c.if-offset_at-offset.true)

pub returns-in-Err : goal.returns-in-Err
returns-in-Err c =
    let at = c.in_ok-place.ensures.lookup in
    sym (spot_stuck _ _ _ at.3.0 (at.3.1 0) c.offset_at.ensures _ c.if-offset_at-offset.false (sym c.in-Err.ensures))

pub returns-in-Ok : goal.returns-in-Ok
returns-in-Ok c =
    let at = c.in_ok-place.ensures.lookup in
    sym (spot-here _ _ _ at.3.0 (at.3.1 0) c.offset_at.ensures _ c.if-offset_at-offset.false (sym c.in-Ok.ensures))

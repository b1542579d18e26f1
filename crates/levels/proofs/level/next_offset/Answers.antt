use Rattle.std.proofs.Common.{sym, ◌∙◌}
use Rattle.levels.proofs.FrontsLaws.{next-end, next_here}
use Rattle.levels.proofs.level.next_offset.Goals as goal

pub returns-in_err-place : goal.returns-in_err-place
returns-in_err-place c = c.from_residual.ensures ∙ sym (next-end _ _ _ c.in_err-place.ensures.lookup.3)

pub returns : goal.returns
returns c =
    let at = c.in_ok-place.ensures.lookup in
    sym (next_here _ _ _ at.3.0 (at.3.1 0) c.offset_at.ensures)

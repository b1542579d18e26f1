use Rattle.std.proofs.Common.{◌∙◌, sym, arith}
use Rattle.spv.proofs.PositionFitsLaws.{low_half}
use Rattle.spv.proofs.DepthLaws.{beside_none, beside-here, beside-above}
use Rattle.spv.proofs.depth.meet_beside.Goals as goal

pub returns-in_default : goal.returns-in_default
returns-in_default c = rw c.reject_for.ensures (beside_none _ _ _ _ _ _ _ _ c.in_default.ensures)

pub returns-then-same_bytes : goal.returns-then-same_bytes
returns-then-same_bytes c = beside-here _ _ _ _ _ _ _ _ c.in-Ok.ensures _ c.parent_of-d.ensures (sym c.same_bytes.ensures ∙ c.if-same_bytes.true) _ c.string_of.ensures

pub meet_above-requires : goal.meet_above-requires
meet_above-requires c = (omega (arith, c.requires.0), low_half _ _ c.requires.1)

pub returns : goal.returns
returns c = c.meet_above.ensures ∙ beside-above _ _ _ _ _ _ _ _ c.in-Ok.ensures _ c.parent_of-d.ensures (sym c.same_bytes.ensures ∙ c.if-same_bytes.false)

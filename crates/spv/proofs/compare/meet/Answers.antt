use Rattle.std.proofs.Common.{ap, ap₂, ◌∙◌, sym, arith}
use Rattle.format.specs.Bytes.{same}
use Rattle.spv.proofs.PositionFitsLaws.{low_lower, low-next}
use Rattle.spv.specs.Shapes.{meeting_of}
use Rattle.spv.proofs.Turns.{pairing_end, pairing_stop, pairing_stop₂, pairing_here, pairing_up}
use Rattle.spv.proofs.compare.meet.Goals as goal

pub layer_of-requires : goal.layer_of-requires
layer_of-requires c = low_lower _ _ _ c.loop-k.invariant.1

pub returns-in_default : goal.returns-in_default
returns-in_default c = ap meeting_of (pairing_stop _ _ _ _ _ _ _ _ _ _ _ c.loop-k.invariant.0 (omega arith) _ c.in_default.ensures)

pub returns-in_default-layer_of : goal.returns-in_default-layer_of
returns-in_default-layer_of c = ap meeting_of (pairing_stop₂ _ _ _ _ _ _ _ _ _ _ _ c.loop-k.invariant.0 (omega arith) _ c.in_default-layer_of.ensures)

pub returns-then-same_bytes : goal.returns-then-same_bytes
returns-then-same_bytes c =
    rw c.met.ensures (ap meeting_of (pairing_here _ _ _ _ _ _ _ _ _ _ _ c.loop-k.invariant.0 (omega arith) _ _ c.in-Ok.ensures c.in-Ok-layer_of.ensures
    (sym (c.same_bytes.ensures ∙ ap₂ same c.parent_of-c.ensures c.parent_of-d.ensures) ∙ c.if-same_bytes.true)))

pub loop-k-preserved : goal.loop-k-preserved
loop-k-preserved c = (
  pairing_up _ _ _ _ _ _ _ _ _ _ _ c.loop-k.invariant.0 (omega arith) _ _ c.in-Ok.ensures c.in-Ok-layer_of.ensures
      (sym (c.same_bytes.ensures ∙ ap₂ same c.parent_of-c.ensures c.parent_of-d.ensures) ∙ c.if-same_bytes.false) _ _ c.parent_of-c.ensures c.parent_of-d.ensures,
  low-next _ _ _ c.loop-k.invariant.1,
)

pub returns : goal.returns
returns c = ap meeting_of (pairing_end _ _ _ _ _ _ _ _ _ _ _ c.loop-k.invariant.0 (omega arith))

use Prim.Native.Nat.{◌+◌}
use mathlib.Core.Path.{refl, ◌∙◌}
use native.Mathlib.Omega.{arith}
use Rattle.bundle.specs.Windows.{sum_to}
use Rattle.bundle.proofs.AheadLaws.{onward-start, onward-four, ids_none, ids_four, ids_enough, anchors_none, anchors_four, anchors_enough}
use Rattle.bundle.proofs.WorkMadeLaws.{made_four, made_all}
use Rattle.bundle.proofs.ids.write_ids.Goals as goal

pub loop-i-init : goal.loop-i-init
unfolding sum_to
loop-i-init c = (refl, onward-start _ _ _, ids_none _ _ _ _, anchors_none _ _ _ _, refl, omega arith)

pub loop-i-preserved : goal.loop-i-preserved
loop-i-preserved c = (
  c.set_four.auto.list ∙ c.loop-i.invariant.0,
  onward-four _ _ _ _ _ _ _ c.loop-i.invariant.1 c.spans_from-group.ensures,
  rw c.set_four.ensures (ids_four _ _ _ _ _ _ _ _ _ c.loop-i.invariant.2 c.loop-i.invariant.1 c.spans_from-group.ensures c.ids_of.ensures),
  rw c.set_anchors.ensures (anchors_four _ _ _ _ _ _ _ _ c.loop-i.invariant.3 c.loop-i.invariant.1 c.spans_from-group.ensures),
  made_four _ _ _ _ _ _ _ _ c.loop-i.invariant.4 c.group_work-work.ensures.0 c.loop-i.invariant.1 c.spans_from-group.ensures,
  omega arith,
)

pub returns : goal.returns
returns c = (ids_enough _ _ _ _ (omega arith) c.loop-i.invariant.2, anchors_enough _ _ _ _ (omega arith) c.loop-i.invariant.3, c.loop-i.invariant.4 ∙ made_all _ _ _ _ c.loop-i.i (omega arith))

-- the last four
pub returns-2 : goal.returns-2
returns-2 c =
    let ids = ids_four _ _ _ _ _ _ _ _ _ c.loop-i.invariant.2 c.loop-i.invariant.1 c.spans_from-group.ensures c.ids_of.ensures in
    let anchors = anchors_four _ _ _ _ _ _ _ _ c.loop-i.invariant.3 c.loop-i.invariant.1 c.spans_from-group.ensures in (
      rw c.set_four.ensures (ids_enough _ _ _ _ (omega arith) ids),
      rw c.set_anchors.ensures (anchors_enough _ _ _ _ (omega arith) anchors),
      made_four _ _ _ _ _ _ _ _ c.loop-i.invariant.4 c.group_work-work.ensures.0 c.loop-i.invariant.1 c.spans_from-group.ensures ∙ made_all _ _ _ _ (c.loop-i.i + 4) (omega arith),
    )

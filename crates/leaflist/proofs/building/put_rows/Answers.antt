use Rattle.leaflist.proofs.RowsLaws.{rows_on, rows_end}
use mathlib.Core.Path.{sym, ◌∙◌}
use native.Mathlib.Omega.{arith}
use Rattle.leaflist.proofs.building.put_rows.Goals as goal

pub loop-place-preserved : goal.loop-place-preserved
loop-place-preserved c = (
  c.loop-place.invariant.0 ∙ rows_on _ _ c.args.places.now c.loop-place.place-index _ (omega arith) c.offset_at.ensures c.put_row-at.ensures,
  omega arith,
  c.put_row-at.auto.out ∙ c.loop-place.invariant.2,
)

pub shape_of-out : goal.shape_of-out
shape_of-out c = c.loop-place.invariant.2

pub returns : goal.returns
returns c = sym (c.loop-place.invariant.0 ∙ rows_end _ _ c.args.places.now c.loop-place.place-index _ (omega arith))

use Rattle.leaflist.specs.Rows.{store}
use Rattle.leaflist.proofs.RowsLaws.{row_full, row_put}
use mathlib.Core.Path.{sym}
use Rattle.leaflist.proofs.building.put_row.Goals as goal

pub returns-then-out-at : goal.returns-then-out-at
returns-then-out-at c = sym (row_full _ _ _ _ _ c.if-out-at.true)

pub returns : goal.returns
unfolding store
returns c = sym (row_put _ _ _ _ _ c.if-out-at.false)

use mathlib.Core.Path.{sym, ◌∙◌}
use Rattle.format.proofs.ParseLaws.{passed_on}
use Rattle.path.specs.TscPath.{node_place_field}
use Rattle.path.proofs.path.node_place.Goals as goal

pub returns-in_err-next : goal.returns-in_err-next
unfolding node_place_field
returns-in_err-next c = passed_on _ _ c.from_residual.ensures.1 ∙ simp (sym c.in_err-next.ensures)

pub returns : goal.returns
unfolding node_place_field
returns c = simp (sym c.in_ok-next.ensures)

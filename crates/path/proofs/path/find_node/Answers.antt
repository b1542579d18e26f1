use mathlib.Core.Path.{sym}
use Rattle.path.specs.Path.{node_at}
use Rattle.path.proofs.path.find_node.Goals as goal

pub returns-in_default : goal.returns-in_default
unfolding node_at
returns-in_default c = simp (sym c.in_default.ensures)

pub returns : goal.returns
unfolding node_at
returns c = simp (sym c.in-Ok.ensures)

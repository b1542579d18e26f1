use mathlib.Core.Path.{sym}
use Rattle.path.proofs.path.kind_at.Goals as goal

pub returns-in_default : goal.returns-in_default
returns-in_default c = rw (sym c.in_default.ensures)

pub returns : goal.returns
returns c = rw (sym c.in-Ok.ensures)

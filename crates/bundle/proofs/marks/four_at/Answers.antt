use mathlib.Core.Path.{sym}
use Rattle.bundle.proofs.FlatLaws.{four-none, four-some}
use Rattle.bundle.proofs.marks.four_at.Goals as goal

pub returns-in_default : goal.returns-in_default
returns-in_default c = four-none _ _ (sym c.in_default.ensures)

pub returns : goal.returns
returns c = four-some _ _ (sym c.in-Ok.ensures)

use mathlib.Core.Path.{sym, ◌∙◌}
use Rattle.format.proofs.ParseLaws.{passed_on}
use Rattle.path.specs.Unchecked.{unchecked_carried}
use Rattle.path.proofs.walk.unchecked_flagged.Goals as goal

pub returns-in_err-flag : goal.returns-in_err-flag
unfolding unchecked_carried
returns-in_err-flag c = passed_on _ _ c.from_residual.ensures.1 ∙ simp (sym c.in_err-flag.ensures)

pub returns : goal.returns
unfolding unchecked_carried
returns c = c.read_kind.ensures ∙ simp (sym c.in_ok-flag.ensures)

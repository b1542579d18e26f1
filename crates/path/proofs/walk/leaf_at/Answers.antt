use mathlib.Core.Path.{sym, ◌∙◌}
use Rattle.format.proofs.ParseLaws.{passed_on}
use Rattle.path.specs.Unchecked.{unchecked_leaf}
use Rattle.path.proofs.walk.leaf_at.Goals as goal

pub returns-in_err-offset : goal.returns-in_err-offset
unfolding unchecked_leaf
returns-in_err-offset c = passed_on _ _ c.from_residual.ensures.1 ∙ simp (sym c.in_err-offset.ensures)

pub returns-in_err-kind : goal.returns-in_err-kind
unfolding unchecked_leaf
returns-in_err-kind c = passed_on _ _ c.from_residual-in_err-kind.ensures.1 ∙ simp (sym c.in_ok-offset.ensures, sym c.in_err-kind.ensures)

pub returns : goal.returns
unfolding unchecked_leaf
returns c = simp (sym c.in_ok-offset.ensures, sym c.in_ok-kind.ensures)

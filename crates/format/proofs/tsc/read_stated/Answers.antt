use mathlib.Core.Path.{◌∙◌, sym}
use Rattle.format.proofs.ParseLaws.{passed_on}
use Rattle.format.specs.Tsc.{stated_field}
use Rattle.format.proofs.tsc.read_stated.Goals as goal

pub returns-in_err-n : goal.returns-in_err-n
unfolding stated_field
returns-in_err-n c =
    passed_on _ _ c.from_residual.ensures.1 ∙ (simp (sym c.in_err-n.ensures))

pub returns : goal.returns
unfolding stated_field
returns c =
    c.exact_transaction.ensures
    ∙ simp (sym c.in_ok-n.ensures)

use mathlib.Core.Path.{◌∙◌, sym}
use Rattle.format.proofs.ParseLaws.{passed_on}
use Rattle.format.specs.Transaction.{script_field}
use Rattle.format.proofs.transaction.read_script.Goals as goal

pub returns-in_err-n : goal.returns-in_err-n
unfolding script_field
returns-in_err-n c =
    passed_on _ _ c.from_residual.ensures.1 ∙ (simp (sym c.in_err-n.ensures))

pub returns : goal.returns
unfolding script_field
returns c = c.read_run.ensures ∙ simp (sym c.in_ok-n.ensures)

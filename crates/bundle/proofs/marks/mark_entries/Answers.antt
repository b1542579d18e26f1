use mathlib.Core.Path.{◌∙◌}
use native.Mathlib.Omega.{arith}
use Rattle.bundle.proofs.FlatLaws.{passing_end, passing_on}
use Rattle.bundle.proofs.marks.mark_entries.Goals as goal

pub loop-k-preserved : goal.loop-k-preserved
loop-k-preserved c = (c.mark_inputs-again.auto.marks ∙ c.loop-k.invariant.0, λ d. passing_on _ _ _ _ _ _ _ _ (c.loop-k.invariant.1 d) (omega arith) c.inputs_of-inputs.ensures (c.mark_inputs-again.ensures d) c.mark_inputs-again.auto.marks c.earlier-first.ensures)

pub returns : goal.returns
returns c = λ d. passing_end _ _ _ _ _ _ _ _ (c.loop-k.invariant.1 d) (omega arith)

use native.Mathlib.Omega.{arith}
use mathlib.Core.Path.{sym, ◌∙◌}
use Rattle.format.proofs.ParseLaws.{passed_on}
use Rattle.format.proofs.TransactionLaws.{output-told, outputs-start, outputs-step, outputs-refused, outputs-done}
use Rattle.format.proofs.transaction.read_outputs.Goals as goal

pub loop-init : goal.loop-init
loop-init c = (omega arith, outputs-start _ _ _ _)

pub returns-in_err-amount : goal.returns-in_err-amount
returns-in_err-amount c =
    passed_on _ _ c.from_residual.ensures.1 ∙ (sym (c.loop.invariant.1 ∙ outputs-refused _ _ _ _ _ _ (omega arith) (sym c.in_err-amount.ensures)))

pub loop-preserved : goal.loop-preserved
loop-preserved c =
    let read = sym c.in_ok-amount.ensures in (
      omega arith,
      c.loop.invariant.1 ∙ outputs-step _ _ _ _ _ _ _ (omega arith) read
          (λ is. c.add_amount-total.ensures is (output-told _ _ _ read).0),
    )

pub returns : goal.returns
returns c = sym (c.loop.invariant.1 ∙ outputs-done _ _ _ _ _ _ (omega arith))

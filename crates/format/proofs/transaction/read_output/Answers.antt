use mathlib.Core.Path.{sym, ◌∙◌}
use Rattle.format.proofs.ParseLaws.{passed_on}
use Rattle.format.specs.Transaction.{output_field}
use Rattle.format.proofs.transaction.read_output.Goals as goal

pub returns-in_err-amount : goal.returns-in_err-amount
unfolding output_field
returns-in_err-amount c =
    passed_on _ _ c.from_residual.ensures.1 ∙ (simp (sym c.in_err-amount.ensures))

pub returns-then-not-is_taken : goal.returns-then-not-is_taken
unfolding output_field
returns-then-not-is_taken c =
    simp (
      sym c.in_ok-amount.ensures,
      sym c.is_taken.ensures ∙ c.if-not-is_taken.true,
    )

pub returns-in_err-next : goal.returns-in_err-next
unfolding output_field
returns-in_err-next c =
    passed_on _ _ c.from_residual-in_err-next.ensures.1 ∙ (simp (
      sym c.in_ok-amount.ensures,
      sym c.is_taken.ensures ∙ c.if-not-is_taken.false,
      sym c.in_err-next.ensures,
    ))

pub returns : goal.returns
unfolding output_field
returns c =
    simp (
      sym c.in_ok-amount.ensures,
      sym c.is_taken.ensures ∙ c.if-not-is_taken.false,
      sym c.in_ok-next.ensures,
    )

use mathlib.Core.Path.{sym, ◌∙◌}
use Rattle.format.proofs.ParseLaws.{passed_on}
use Rattle.format.specs.Transaction.{input_field}
use Rattle.format.proofs.transaction.read_input.Goals as goal

pub returns-in_err-parent : goal.returns-in_err-parent
unfolding input_field
returns-in_err-parent c =
    passed_on _ _ c.from_residual.ensures.1 ∙ (simp (sym c.in_err-parent.ensures))

pub returns-in_err-output : goal.returns-in_err-output
unfolding input_field
returns-in_err-output c =
    passed_on _ _ c.from_residual-in_err-output.ensures.1 ∙ (simp (
      sym c.in_ok-parent.ensures,
      sym c.in_err-output.ensures,
    ))

pub returns-in_err-fourth_at : goal.returns-in_err-fourth_at
unfolding input_field
returns-in_err-fourth_at c =
    passed_on _ _ c.from_residual-in_err-fourth_at.ensures.1 ∙ (simp (
      sym c.in_ok-parent.ensures,
      sym c.in_ok-output.ensures,
      sym c.in_err-fourth_at.ensures,
    ))

pub returns-in_err-next : goal.returns-in_err-next
unfolding input_field
returns-in_err-next c =
    passed_on _ _ c.from_residual-in_err-next.ensures.1 ∙ (simp (
      sym c.in_ok-parent.ensures,
      sym c.in_ok-output.ensures,
      sym c.in_ok-fourth_at.ensures,
      sym c.in_err-next.ensures,
    ))

pub returns : goal.returns
unfolding input_field
returns c =
    simp (
      sym c.in_ok-parent.ensures,
      sym c.in_ok-output.ensures,
      sym c.in_ok-fourth_at.ensures,
      sym c.in_ok-next.ensures,
    )

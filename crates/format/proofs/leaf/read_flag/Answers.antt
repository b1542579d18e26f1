use mathlib.Core.Path.{sym, ◌∙◌}
use Rattle.format.proofs.ParseLaws.{passed_on}
use Rattle.format.specs.Level.{flag_field}
use Rattle.format.proofs.leaf.read_flag.Goals as goal

pub returns-in_err-flag : goal.returns-in_err-flag
unfolding flag_field
returns-in_err-flag c = passed_on _ _ c.from_residual.ensures.1 ∙ (simp (sym c.in_err-flag.ensures))

pub returns-then-flag_allowed : goal.returns-then-flag_allowed
unfolding flag_field
returns-then-flag_allowed c = simp (sym c.in_ok-flag.ensures, sym c.flag_allowed.ensures ∙ c.if-flag_allowed.true)

pub returns : goal.returns
unfolding flag_field
returns c = simp (sym c.in_ok-flag.ensures, sym c.flag_allowed.ensures ∙ c.if-flag_allowed.false)

use mathlib.Core.Path.{◌∙◌, sym}
use Rattle.format.proofs.ParseLaws.{passed_on}
use Rattle.format.specs.Parse.{each}
use Rattle.format.specs.Level.{carried_field}
use Rattle.format.proofs.leaf.read_flagged.Goals as goal

pub returns-in_err-flag : goal.returns-in_err-flag
unfolding each carried_field
returns-in_err-flag c = passed_on _ _ c.from_residual.ensures.1 ∙ (simp (sym c.in_err-flag.ensures))

pub returns : goal.returns
unfolding carried_field
returns c = c.skip_kind.ensures ∙ simp (sym c.in_ok-flag.ensures)

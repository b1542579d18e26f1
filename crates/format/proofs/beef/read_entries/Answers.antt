use mathlib.Core.Path.{sym, ◌∙◌}
use Rattle.format.proofs.ParseLaws.{passed_on, stop}
use Rattle.format.specs.Beef.{entries_field}
use Rattle.format.proofs.BeefLaws.{entries-refused, entries-read}
use Rattle.format.proofs.beef.read_entries.Goals as goal

pub returns-in_err-wanted : goal.returns-in_err-wanted
unfolding entries_field
returns-in_err-wanted c =
    passed_on _ _ c.from_residual.ensures.1 ∙ (sym (stop _ _ (sym c.in_err-wanted.ensures)))

pub returns-in_err-count : goal.returns-in_err-count
returns-in_err-count c =
    passed_on _ _ c.from_residual-in_err-count.ensures.1 ∙ (sym (entries-refused _ _ _ _ (sym c.in_ok-wanted.ensures) (sym c.in_err-count.ensures)))

pub returns : goal.returns
returns c = sym (entries-read _ _ _ _ (sym c.in_ok-wanted.ensures) (sym c.in_ok-count.ensures))

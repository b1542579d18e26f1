use mathlib.Core.Path.{sym, ◌∙◌}
use Rattle.format.proofs.ParseLaws.{passed_on}
use Rattle.format.specs.Parse.{each}
use Rattle.format.specs.Level.{kind_field}
use Rattle.format.proofs.SeenLaws.{passed_short, passed-hash}
use Rattle.format.proofs.leaf.skip_kind.Goals as goal

pub returns-then-flag-eq1 : goal.returns-then-flag-eq1
unfolding each kind_field
returns-then-flag-eq1 c = simp c.if-flag-eq1.true

pub returns-in_err-next : goal.returns-in_err-next
returns-in_err-next c = passed_on _ _ c.from_residual.ensures.1 ∙ (sym (passed_short _ _ _ _ c.if-flag-eq1.false (sym c.in_err-next.ensures)))

pub returns : goal.returns
returns c = sym (passed-hash _ _ _ _ c.if-flag-eq1.false (sym c.in_ok-next.ensures))

use mathlib.Core.Path.{ap, sym, ◌∙◌}
use Rattle.format.specs.Parse.{each}
use Rattle.format.proofs.ParseLaws.{passed_on}
use Rattle.format.proofs.BeefLaws.{with_heads, bundle-unopened, bundle-opened}
use Rattle.format.proofs.beef.read_bundle.Goals as goal

pub returns-in_err-bumps_at : goal.returns-in_err-bumps_at
returns-in_err-bumps_at c = passed_on _ _ c.from_residual.ensures.1 ∙ sym (bundle-unopened _ _ (sym c.in_err-bumps_at.ensures))

pub returns-in_err-kept : goal.returns-in_err-kept
returns-in_err-kept c = passed_on _ _ c.from_residual-in_err-kept.ensures.1 ∙ sym (bundle-opened _ _ (sym c.in_ok-bumps_at.ensures) c.in_err-kept.ensures)

pub returns-in_err-head : goal.returns-in_err-head
unfolding each
returns-in_err-head c =
    passed_on _ _ c.from_residual-in_err-head.ensures.1
    ∙ sym (bundle-opened _ _ (sym c.in_ok-bumps_at.ensures) c.in_ok-kept.ensures ∙ ap (each (with_heads c.in_ok-kept.kept.heads)) (sym c.in_err-head.ensures))

pub returns : goal.returns
unfolding each
returns c = sym (bundle-opened _ _ (sym c.in_ok-bumps_at.ensures) c.in_ok-kept.ensures ∙ ap (each (with_heads c.in_ok-kept.kept.heads)) (sym c.in_ok-head.ensures))

use mathlib.Core.Path.{ap, sym, ◌∙◌}
use Rattle.std.specs.Prelude.{Err}
use Rattle.std.proofs.lemmas.Result.{err_from_is_err_and}
use Rattle.bundle.proofs.BundleHeadLaws.{trusted-refused, trusted-listed, trusted-not}
use Rattle.bundle.proofs.anchored.trust.Goals as goal

pub returns-in_err-proved : goal.returns-in_err-proved
returns-in_err-proved c = λ v e.
    let p = err_from_is_err_and c.from_residual.result c.from_residual.ensures.1 in
    rw (p.1, p.2) (sym (trusted-refused _ _ v _ (sym c.in_err-proved.was ∙ e)))

pub returns-then-not-is_among : goal.returns-then-not-is_among
returns-then-not-is_among c = λ v e. ap Err c.reject_for.ensures ∙ sym (trusted-not _ _ v _ (sym c.in_ok-proved.was ∙ e) (sym c.is_among.ensures ∙ c.if-not-is_among.true))

pub returns : goal.returns
returns c = λ v e. sym (trusted-listed _ _ v _ (sym c.in_ok-proved.was ∙ e) (sym c.is_among.ensures ∙ c.if-not-is_among.false))

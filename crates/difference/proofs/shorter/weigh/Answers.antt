use Rattle.std.proofs.Common.{sym, ◌∙◌, ap}
use Rattle.std.proofs.lemmas.Result.{err_from_is_err_and}
use Rattle.spv.specs.Result.{accepted, refused}
use Rattle.spv.specs.declared.prove.Proved.{Proved}
use Rattle.spv.proofs.ResultLaws.{answered-ok, answered-err}
use Rattle.difference.proofs.ShorterLaws.{first-refused, second-refused, two_roots, one-root}
use Rattle.difference.proofs.shorter.weigh.Goals as goal

pub returns-in_err-x : goal.returns-in_err-x
returns-in_err-x c =
    let p = err_from_is_err_and c.from_residual.result c.from_residual.ensures.1 in
    rw (p.1, p.2) (first-refused _ _ _ _ (answered-err _ _ _ c.in_err-x.ensures))

pub returns-in_err-y : goal.returns-in_err-y
returns-in_err-y c =
    let p = err_from_is_err_and c.from_residual-in_err-y.result c.from_residual-in_err-y.ensures.1 in
    rw (p.1, p.2) (second-refused _ _ _ (answered-ok _ _ _ c.in_ok-x.ensures).1 _ (answered-err _ _ _ c.in_err-y.ensures))

pub returns-then-not-same_bytes : goal.returns-then-not-same_bytes
returns-then-not-same_bytes c =
    let x = answered-ok _ _ _ c.in_ok-x.ensures in
    let y = answered-ok _ _ _ c.in_ok-y.ensures in
    ap refused c.reject_for.ensures ∙ two_roots _ _ _ x.1 y.1 (ap (λ (p : Proved). p.root) x.2) (ap (λ (p : Proved). p.root) y.2) (sym c.same_bytes.ensures ∙ c.if-not-same_bytes.true)

pub returns : goal.returns
returns c =
    let x = answered-ok _ _ _ c.in_ok-x.ensures in
    let y = answered-ok _ _ _ c.in_ok-y.ensures in
    ap accepted c.shorter_of.ensures ∙ one-root _ _ _ x.1 y.1 (ap (λ (p : Proved). p.root) x.2) (ap (λ (p : Proved). p.root) y.2) (sym c.same_bytes.ensures ∙ c.if-not-same_bytes.false)

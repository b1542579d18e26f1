use Rattle.std.proofs.Common.{ap, ◌∙◌}
use Rattle.spv.specs.Result.{accepted}
use Rattle.spv.proofs.ResultLaws.{answered-ok, answered-err, refused_on}
use Rattle.merging.proofs.MergeLaws.{first-refused, second-refused, left-bytes, left-list}
use Rattle.merging.proofs.merging.merge.Goals as goal

pub merge_checked-requires : goal.merge_checked-requires
merge_checked-requires c =
    let x = answered-ok _ _ _ c.in_ok-root.ensures in
    let y = answered-ok _ _ _ c.in_ok-other.ensures in
    (x.1 ∙ ap accepted x.2, y.1 ∙ ap accepted y.2)

pub returns-in_err-root : goal.returns-in_err-root
returns-in_err-root c =
    let e = first-refused _ _ _ _ _ (answered-err _ _ _ c.in_err-root.ensures) in
    record { value = refused_on _ _ _ _ c.from_residual.ensures.1 e; bytes_after = left-bytes _ _ e _; list_after = left-list _ _ e _ }

pub returns-in_err-other : goal.returns-in_err-other
returns-in_err-other c =
    let e = second-refused _ _ _ _ _ _ (answered-ok _ _ _ c.in_ok-root.ensures).1 (answered-err _ _ _ c.in_err-other.ensures) in
    record { value = refused_on _ _ _ _ c.from_residual-in_err-other.ensures.1 e; bytes_after = left-bytes _ _ e _; list_after = left-list _ _ e _ }

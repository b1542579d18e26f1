use Rattle.std.proofs.Common.{sym, refl}
use Rattle.spv.proofs.ResultLaws.{refused_on}
use Rattle.leaflist.proofs.RowsLaws.{unread, no_room, left-refused, built_count, built_words}
use Rattle.leaflist.proofs.building.build.Goals as goal

pub returns-in_err-head : goal.returns-in_err-head
returns-in_err-head c =
    let e = unread _ _ _ (sym c.in_err-head.ensures) in
    record { value = refused_on _ _ _ _ c.from_residual.ensures.1 e; out_after = left-refused _ _ _ e }

pub returns-then-out-head : goal.returns-then-out-head
returns-then-out-head c =
    let e = no_room _ c.args.out.now _ (sym c.in_ok-head.ensures) c.if-out-head.true in
    record { value = rw (c.reject_for.ensures, e) refl; out_after = left-refused _ _ _ e }

pub returns : goal.returns
returns c =
    let head = sym c.in_ok-head.ensures in
    record { value = built_count _ _ _ head c.if-out-head.false _ _ c.list_leaves.ensures; out_after = built_words _ _ _ head c.if-out-head.false _ _ c.list_leaves.ensures }

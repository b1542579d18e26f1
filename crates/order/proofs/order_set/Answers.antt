use mathlib.Core.Path.{refl}
use lib.ListN.{length}
use Rattle.order.proofs.SetAnswers.{opened-told, order_refused, order_short, order_made, answer_refused, row-refused, answer_none, answer_some, row-ours}
use Rattle.order.proofs.order_set.Goals as goal

pub returns-in-Err : goal.returns-in-Err
returns-in-Err c =
    let e = order_refused _ _ c.in-Err.ensures (length c.args.row.now) in
    (answer_refused e refl, row-refused c.args.row.now e c.zero_row.ensures)

pub returns-then-row-count : goal.returns-then-row-count
returns-then-row-count c =
    let o = opened-told _ _ _ c.in_default.ensures in
    let e = order_short _ _ _ o c.if-row-count.true in
    (answer_refused e c.refuse.ensures, row-refused c.args.row.now e c.zero_row-then-row-count.ensures)

pub fill_parents-requires : goal.fill_parents-requires
fill_parents-requires c =
    let o = opened-told _ _ _ c.in_default.ensures in
    o.few

pub our_order-requires : goal.our_order-requires
our_order-requires c =
    let o = opened-told _ _ _ c.in_default.ensures in
    (o.few, c.if-row-count.false)

pub returns-then-not-our_order : goal.returns-then-not-our_order
returns-then-not-our_order c =
    let o = opened-told _ _ _ c.in_default.ensures in
    let e = order_made _ _ _ o c.fill_parents.ensures c.no_bytes-matrix.ensures c.if-row-count.false in
    (answer_none _ e c.our_order.ensures.0 c.if-not-our_order.true c.refuse-then-not-our_order.ensures, row-ours _ c.args.row.now e c.our_order.ensures.1)

pub returns : goal.returns
returns c =
    let o = opened-told _ _ _ c.in_default.ensures in
    let e = order_made _ _ _ o c.fill_parents.ensures c.no_bytes-matrix.ensures c.if-row-count.false in
    (answer_some _ e c.our_order.ensures.0 c.if-not-our_order.false, row-ours _ c.args.row.now e c.our_order.ensures.1)

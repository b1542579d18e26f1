use Rattle.barrowtide.proofs.ordering.barrowtide_order.Goals as goal

pub returns : goal.returns
returns c =
    let t = c.tell.ensures _ c.order_set-answer.ensures.0 in
    (t.0, c.order_set-answer.ensures.1, t.1, t.2)

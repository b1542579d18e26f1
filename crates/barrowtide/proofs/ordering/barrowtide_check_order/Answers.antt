use Rattle.barrowtide.proofs.ordering.barrowtide_check_order.Goals as goal

pub returns : goal.returns
returns c = c.tell.ensures _ c.check_set-answer.ensures

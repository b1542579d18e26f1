use Rattle.order.proofs.CodeLaws.{depends_bit}
use Rattle.order.proofs.parents.is_parent.Goals as goal

pub returns : goal.returns
returns c = depends_bit _ _ _ c.has_bit.ensures

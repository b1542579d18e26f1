use Rattle.lanes.proofs.Turns.{before-end_new, before-end_old}
use Rattle.lanes.proofs.messages.chosen.Goals as goal

pub returns-then-i-n : goal.returns-then-i-n
returns-then-i-n c = before-end_new _ _ _ _ c.if-i-n.true

pub returns-else-i-n : goal.returns-else-i-n
returns-else-i-n c = before-end_old _ _ _ _ c.if-i-n.false

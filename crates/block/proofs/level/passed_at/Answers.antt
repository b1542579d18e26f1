use Rattle.block.proofs.LeavesLaws.{passed-client, passed_over}
use Rattle.block.proofs.level.passed_at.Goals as goal

pub returns-then-base : goal.returns-then-base
returns-then-base c = passed-client c.if-base.true

pub returns-else-base : goal.returns-else-base
returns-else-base c = passed_over c.if-base.false

use Rattle.conversion.proofs.ConvertLaws.{count_header, count-other}
use Rattle.conversion.proofs.from_tsc.node_count_at.Goals as goal

pub returns-then-head-eq2 : goal.returns-then-head-eq2
returns-then-head-eq2 c = λ t e. count_header t _ e c.if-head-eq2.true

pub returns-else-head-eq2 : goal.returns-else-head-eq2
returns-else-head-eq2 c = λ t e. count-other t _ e c.if-head-eq2.false

use Rattle.std.proofs.Common.{arith}
use Rattle.lanes.proofs.Turns.{all-before-end}
use Rattle.lanes.specs.Lanes.{lane}
use Rattle.lanes.proofs.messages.kept_where_done.Goals as goal

pub returns-then-i-n-4 : goal.returns-then-i-n-4
returns-then-i-n-4 c = λ l. all-before-end l c.args.i c.args.n (lane l c.args.new) (lane l c.args.old) (omega arith) (omega arith) (omega arith) (omega arith)

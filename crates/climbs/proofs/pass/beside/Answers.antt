use Rattle.std.proofs.Common.{sym, arith}
use Rattle.climbs.proofs.PassLaws.{beside-left, beside_right, beside_neither}
use Rattle.climbs.proofs.pass.beside.Goals as goal
use Rattle.climbs.proofs.pass.beside.Goals.{else-j-gt0-via-then-j-gt0+else-j-left-2, else-j-gt0-via-else-j-gt0}

pub returns-then-j-left : goal.returns-then-j-left
returns-then-j-left c = sym (beside-left c.args.j c.args.left c.args.l c.args.r c.if-j-left.true)

pub returns-then-j-left-2 : goal.returns-then-j-left-2
returns-then-j-left-2 c = sym (beside_right c.args.j c.args.left c.args.l c.args.r (omega arith))

pub returns : goal.returns
returns c = sym (beside_neither c.args.j c.args.left c.args.l c.args.r c.if-j-left.false (λ e. elim c.else-j-gt0.branch [ else-j-gt0-via-then-j-gt0+else-j-left-2 w ↦ omega arith | else-j-gt0-via-else-j-gt0 w ↦ omega arith ]))

use native.Mathlib.Omega.{arith}
use lib.ListN.{get_or}
use borrow.Author.Tests.{eq-eqb, ne_eqb}
use Rattle.order.proofs.CodeLaws.{ready-high, ready-placed, ready-rests}
use Rattle.order.proofs.placing.is_ready.Goals as goal

pub returns-then-i-n : goal.returns-then-i-n
returns-then-i-n c = ready-high c.args.matrix.now c.args.marks.now c.args.n c.args.i (omega arith)

pub returns-then-marks-i-eq1 : goal.returns-then-marks-i-eq1
returns-then-marks-i-eq1 c = ready-placed c.args.matrix.now c.args.marks.now c.args.n c.args.i (omega arith) (omega arith) (eq-eqb (get_or c.args.marks.now c.args.i 0) 1 c.if-marks-i-eq1.true)

pub returns : goal.returns
returns c = ready-rests c.args.matrix.now c.args.marks.now c.args.n c.args.i (omega arith) (omega arith) (ne_eqb (get_or c.args.marks.now c.args.i 0) 1 c.if-marks-i-eq1.false) c.rests.result c.rests.ensures

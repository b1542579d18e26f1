use borrow.Author.Rules.{rules}
use native.Mathlib.Omega.{arith}
use Rattle.block.proofs.MarksLaws.{passed_start, passed_on, passed-end}
use Rattle.block.proofs.marks.marks_of.Goals as goal

pub loop-position-init : goal.loop-position-init
loop-position-init c = (passed_start _ _ (omega arith), omega arith, search rules)

pub mark-requires : goal.mark-requires
mark-requires c = (omega arith, omega arith, omega (arith, c.requires.2 c.loop-position.position-index c.loop-position-test.true))

pub loop-position-preserved : goal.loop-position-preserved
loop-position-preserved c = (passed_on _ _ _ _ _ (omega arith) c.loop-position.invariant.0 c.mark.ensures, omega arith, search rules)

pub returns : goal.returns
returns c = passed-end _ _ _ _ (omega arith) c.loop-position.invariant.0

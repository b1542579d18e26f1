use native.Mathlib.Omega.{arith}
use Rattle.block.proofs.MarksLaws.{marking_start, marking_in, marking_on, marking_end}
use Rattle.block.proofs.marks.mark.Goals as goal

pub loop-init : goal.loop-init
loop-init c = marking_start _ _ _ _ (omega arith)

pub overflow_add-marks : goal.overflow_add-marks
overflow_add-marks c = let w = marking_in _ _ _ _ _ _ _ c.loop.invariant (omega arith) (omega arith) (omega arith) in omega arith

pub bounds-marks-width : goal.bounds-marks-width
bounds-marks-width c = let w = marking_in _ _ _ _ _ _ _ c.loop.invariant (omega arith) (omega arith) (omega arith) in omega arith

pub loop-preserved : goal.loop-preserved
loop-preserved c = marking_on _ _ _ _ _ _ _ c.loop.invariant (omega arith) (omega arith) (omega arith) (omega arith)

pub returns : goal.returns
returns c = marking_end _ _ _ _ _ _ _ c.loop.invariant (omega arith)

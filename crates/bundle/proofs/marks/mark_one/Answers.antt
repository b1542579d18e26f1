use mathlib.Core.Path.{refl}
use Rattle.bundle.proofs.FlatLaws.{one_below, one-past, one_again, one_new}
use Rattle.bundle.proofs.marks.mark_one.Goals as goal

pub returns-then-x-base : goal.returns-then-x-base
returns-then-x-base c = one_below _ _ _ _ _ refl c.if-x-base.true

pub returns-then-marks-at : goal.returns-then-marks-at
returns-then-marks-at c = one-past _ _ _ _ _ refl c.if-x-base.false c.if-marks-at.true

pub returns-then-marks-at-ne0 : goal.returns-then-marks-at-ne0
returns-then-marks-at-ne0 c = one_again _ _ _ _ _ refl c.if-x-base.false c.if-marks-at.false c.if-marks-at-ne0.true

pub returns : goal.returns
returns c = one_new c.args.base _ c.args.x c.args.k c.args.marks.now refl c.if-x-base.false c.if-marks-at.false c.if-marks-at-ne0.false

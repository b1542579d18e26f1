use native.Mathlib.Omega.{arith}
use mathlib.Core.Path.{◌∙◌}
use Rattle.bundle.proofs.WalkLaws.{onward-same, onward_over, onward_short, onward-next}
use Rattle.bundle.proofs.sums.onward.Goals as goal

pub returns-then-walk-ne0 : goal.returns-then-walk-ne0
returns-then-walk-ne0 c = onward-same _ _ c.if-walk-ne0.true

pub returns-then-entry-ge256 : goal.returns-then-entry-ge256
returns-then-entry-ge256 c = onward_over _ _ c.if-walk-ne0.false c.if-entry-ge256.true

pub returns-then-entry-gt-NUMBERS_ROOM : goal.returns-then-entry-gt-NUMBERS_ROOM
returns-then-entry-gt-NUMBERS_ROOM c = onward_short _ _ c.if-walk-ne0.false c.if-entry-ge256.false (omega arith)

pub returns : goal.returns
returns c = c.walk_at.ensures ∙ onward-next _ _ c.if-walk-ne0.false c.if-entry-ge256.false (omega arith)

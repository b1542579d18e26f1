use Rattle.bundle.proofs.FlatLaws.{inputs-anchored, inputs_free}
use Rattle.bundle.proofs.marks.inputs_of.Goals as goal

pub returns-then-numbers-at-ne0 : goal.returns-then-numbers-at-ne0
returns-then-numbers-at-ne0 c = inputs-anchored _ _ c.if-numbers-at-ne0.true

pub returns : goal.returns
returns c = inputs_free _ _ c.if-numbers-at-ne0.false

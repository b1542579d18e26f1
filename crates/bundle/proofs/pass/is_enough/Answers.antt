use Rattle.bundle.proofs.FaultLaws.{enough-anchored, enough_less, enough-more}
use Rattle.bundle.proofs.pass.is_enough.Goals as goal

pub returns-then-numbers-at-ne0 : goal.returns-then-numbers-at-ne0
returns-then-numbers-at-ne0 c = enough-anchored _ _ _ _ c.if-numbers-at-ne0.true

pub returns-then-sum-total : goal.returns-then-sum-total
returns-then-sum-total c = enough_less _ _ _ _ c.if-numbers-at-ne0.false c.if-sum-total.true

pub returns : goal.returns
returns c = enough-more _ _ _ _ c.if-numbers-at-ne0.false c.if-sum-total.false

use Rattle.barrowtide.proofs.PartsLaws.{says-more, says-refused, says-received, more_tells, refused_tells, received_tells}
use Rattle.barrowtide.proofs.parts.tell.Goals as goal

pub returns-then-answer-eq0 : goal.returns-then-answer-eq0
returns-then-answer-eq0 c = λ v h. more_tells v _ _ _ _ _ (says-more _ v h c.if-answer-eq0.true)

pub returns-then-answer-eq1 : goal.returns-then-answer-eq1
returns-then-answer-eq1 c = λ v h. refused_tells v _ _ _ _ _ (says-refused _ v h c.if-answer-eq1.true)

pub returns : goal.returns
returns c = λ v h. received_tells v _ _ _ _ _ (says-received _ v h c.if-answer-eq0.false c.if-answer-eq1.false)

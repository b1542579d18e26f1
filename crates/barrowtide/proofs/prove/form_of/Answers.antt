use Rattle.barrowtide.proofs.FormsLaws.{form_bump, form_cmp, form_tsc}
use Rattle.barrowtide.proofs.prove.form_of.Goals as goal

pub returns-then-number-eq0 : goal.returns-then-number-eq0
returns-then-number-eq0 c = form_bump _ c.if-number-eq0.true

pub returns-then-number-eq1 : goal.returns-then-number-eq1
returns-then-number-eq1 c = form_cmp _ c.if-number-eq0.false c.if-number-eq1.true

pub returns : goal.returns
returns c = form_tsc _ c.if-number-eq0.false c.if-number-eq1.false

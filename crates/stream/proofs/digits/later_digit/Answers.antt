use Rattle.stream.specs.declared.progress.Progress.{Progress}
use mathlib.Core.Path.{◌∙◌, ap}
use borrow.Author.Tests.{le-leb, lt-leb}
use Rattle.stream.specs.Progress.{later_digit, shifted, numbered}
use Rattle.stream.proofs.digits.later_digit.Goals as goal

pub returns-then-f-le1 : goal.returns-then-f-le1
unfolding later_digit shifted
returns-then-f-le1 c = rw (le-leb _ _ c.if-f-le1.true) (c.numbered.ensures ∙ ap (λ (g : Progress). numbered g c.args.f.width g.value) c.shifted-g.ensures)

pub returns : goal.returns
unfolding later_digit
returns c = rw (lt-leb _ _ c.if-f-le1.false, ← c.shifted-g.ensures)

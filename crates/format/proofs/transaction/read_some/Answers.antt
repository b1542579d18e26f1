use mathlib.Core.Path.{sym, ◌∙◌}
use borrow.Author.Tests.{le-leb, lt-leb}
use native.Mathlib.Omega.{arith}
use Rattle.format.proofs.ParseLaws.{passed_on}
use Rattle.format.specs.Transaction.{some_field}
use Rattle.format.proofs.transaction.read_some.Goals as goal

pub returns-in_err-n : goal.returns-in_err-n
unfolding some_field
returns-in_err-n c = passed_on _ _ c.from_residual.ensures.1 ∙ (simp (sym c.in_err-n.ensures))

pub returns-then-n-lt1 : goal.returns-then-n-lt1
unfolding some_field
returns-then-n-lt1 c = simp (sym c.in_ok-n.ensures, lt-leb _ _ c.if-n-lt1.true)

-- n is found to be one or more without the test's name, so that a wrong test is refused for that
pub returns : goal.returns
unfolding some_field
returns c = simp (sym c.in_ok-n.ensures, le-leb 1 c.in_ok-n.n (omega arith))

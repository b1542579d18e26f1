use mathlib.Core.Path.{sym, ◌∙◌}
use native.Mathlib.Omega.{arith}
use Rattle.format.proofs.ParseLaws.{passed_on}
use Rattle.format.proofs.Span.{bytes-told}
use Rattle.format.proofs.field.read_four.Goals as goal

pub returns-in_err-at : goal.returns-in_err-at
returns-in_err-at c =
    passed_on _ _ c.from_residual.ensures.1 ∙ (simp (sym c.in_err-at.ensures))

pub four-requires : goal.four-requires
four-requires c = let b = bytes-told 4 _ _ (sym c.in_ok-at.ensures) in omega arith

pub returns : goal.returns
returns c = rw c.four.ensures.0 (simp (sym c.in_ok-at.ensures))

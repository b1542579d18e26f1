use mathlib.Core.Path.{sym, ◌∙◌}
use native.Mathlib.Omega.{arith}
use Rattle.format.proofs.ParseLaws.{passed_on}
use Rattle.format.proofs.Span.{bytes-told}
use Rattle.format.proofs.field.read_eight.Goals as goal

pub returns-in_err-at : goal.returns-in_err-at
returns-in_err-at c =
    passed_on _ _ c.from_residual.ensures.1 ∙ (simp (sym c.in_err-at.ensures))

pub eight-requires : goal.eight-requires
eight-requires c = let b = bytes-told 8 _ _ (sym c.in_ok-at.ensures) in omega arith

pub returns : goal.returns
returns c = rw c.eight.ensures (simp (sym c.in_ok-at.ensures))

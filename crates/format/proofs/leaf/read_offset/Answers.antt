use native.Mathlib.Omega.{arith}
use mathlib.Core.Path.{sym, ◌∙◌}
use Rattle.format.proofs.ParseLaws.{passed_on}
use Rattle.format.proofs.LevelLaws.{offset-again, offset-fresh}
use Rattle.format.proofs.SeenLaws.{offset-told, bounded_refused}
use Rattle.format.proofs.leaf.read_offset.Goals as goal

pub returns-in_err-offset : goal.returns-in_err-offset
returns-in_err-offset c = passed_on _ _ c.from_residual.ensures.1 ∙ (sym (bounded_refused _ _ _ _ (sym c.in_err-offset.ensures)))

pub bounds-slots-offset : goal.bounds-slots-offset
bounds-slots-offset c = omega arith

pub returns-then-contains : goal.returns-then-contains
returns-then-contains c = let b = offset-told _ _ _ _ (sym c.in_ok-offset.ensures) in sym (offset-again _ _ _ _ b.0 b.1 (sym c.contains.ensures ∙ c.if-contains.true))

pub returns-else-contains : goal.returns-else-contains
returns-else-contains c = let b = offset-told _ _ _ _ (sym c.in_ok-offset.ensures) in sym (offset-fresh _ _ _ _ b.0 b.1 (sym c.contains.ensures ∙ c.if-contains.false))

pub returns-else-slots-offset-ne0 : goal.returns-else-slots-offset-ne0
returns-else-slots-offset-ne0 c = let b = offset-told _ _ _ _ (sym c.in_ok-offset.ensures) in sym (offset-fresh _ _ _ _ b.0 b.1 (c.requires.1 _ c.if-slots-offset-ne0.false))

use mathlib.Core.Path.{refl, sym}
use Rattle.format.specs.declared.leaf.Kind.{Kind}
use Rattle.path.proofs.StepLaws.{told_on, step-copy, step_short, step-hash}
use Rattle.path.proofs.walk.step_kind.Goals as goal

pub returns-then-flags-eq1 : goal.returns-then-flags-eq1
returns-then-flags-eq1 c = (Kind.Copy, step-copy _ _ _ _ c.if-flags-eq1.true, refl)

pub returns-in_err-place : goal.returns-in_err-place
returns-in_err-place c = told_on _ _ _ c.from_residual.ensures.1 (step_short _ _ _ _ c.if-flags-eq1.false (sym c.in_err-place.ensures))

pub returns : goal.returns
returns c = step-hash _ _ _ _ c.if-flags-eq1.false (sym c.in_ok-place.ensures)

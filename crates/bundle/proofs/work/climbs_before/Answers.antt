use mathlib.Core.Path.{sym, ◌∙◌}
use native.Mathlib.Omega.{arith}
use Rattle.bundle.proofs.WorkMadeLaws.{before-past, before-again, before_own}
use Rattle.bundle.proofs.work.climbs_before.Goals as goal

pub returns-then-n-rejection : goal.returns-then-n-rejection
returns-then-n-rejection c = (sym (before-past _ _ c.if-n-rejection.true), omega arith)

pub returns-then-rejection-number : goal.returns-then-rejection-number
returns-then-rejection-number c = (sym (before-again _ _ c.if-n-rejection.false (c.if-rejection-number.true ∙ c.number.ensures)), omega arith)

pub returns : goal.returns
returns c = (sym (before_own _ _ c.if-n-rejection.false (λ e. c.if-rejection-number.false (e ∙ sym c.number.ensures))), omega arith)

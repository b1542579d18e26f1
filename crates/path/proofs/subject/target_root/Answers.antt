use native.Mathlib.Omega.{arith}
use mathlib.Core.Path.{sym, ◌∙◌}
use borrow.Author.Tests.{eq-eqb, ne_eqb}
use Rattle.format.specs.Tsc.{target_root}
use Rattle.format.proofs.TscLaws.{root_none}
use Rattle.path.proofs.subject.target_root.Goals as goal

pub returns-then-head-ne2 : goal.returns-then-head-ne2
unfolding target_root
returns-then-head-ne2 c = c.hash_at.ensures ∙ simp (ne_eqb _ _ c.if-head-ne2.true)

pub returns-then-s-place : goal.returns-then-s-place
returns-then-s-place c = sym (root_none _ _ _ c.if-head-ne2.false (omega arith))

pub returns-then-s-place-lt68 : goal.returns-then-s-place-lt68
returns-then-s-place-lt68 c = sym (root_none _ _ _ c.if-head-ne2.false (omega arith))

pub returns : goal.returns
unfolding target_root
returns c = c.hash_at-2.ensures ∙ simp (eq-eqb _ _ c.if-head-ne2.false)

use mathlib.Core.Path.{◌∙◌, sym}
use Rattle.block.proofs.LeavesLaws.{form_passed, form_nothing, form_plain, form_copy, sibling-told, sibling_in}
use native.Mathlib.Omega.{arith}
use Rattle.block.proofs.level.asked_at.Goals as goal

pub returns-then-is_marked : goal.returns-then-is_marked
returns-then-is_marked c = c.passed_at.ensures ∙ form_passed _ _ _ _ _ (sym c.is_marked.ensures ∙ c.if-is_marked.true)

pub overflow_add-width-2 : goal.overflow_add-width-2
overflow_add-width-2 c = omega (arith, sibling_in _ _ c.requires.1 c.requires.0)

pub is_marked-requires-2 : goal.is_marked-requires-2
is_marked-requires-2 c = omega (arith, sibling_in _ _ c.requires.1 c.requires.0)

pub returns-then-not-is_marked : goal.returns-then-not-is_marked
returns-then-not-is_marked c = form_nothing _ _ _ _ _ (sym c.is_marked.ensures ∙ c.if-is_marked.false) (sibling-told _ _ _ c.sibling_position-sibling.ensures c.is_marked-2.ensures c.if-not-is_marked.true)

pub returns-then-o-count : goal.returns-then-o-count
returns-then-o-count c = form_plain _ _ _ _ _ (sym c.is_marked.ensures ∙ c.if-is_marked.false) (sibling-told _ _ _ c.sibling_position-sibling.ensures c.is_marked-2.ensures c.if-not-is_marked.false) c.if-o-count.true

pub returns-else-o-count : goal.returns-else-o-count
returns-else-o-count c = form_copy _ _ _ _ _ (sym c.is_marked.ensures ∙ c.if-is_marked.false) (sibling-told _ _ _ c.sibling_position-sibling.ensures c.is_marked-2.ensures c.if-not-is_marked.false) c.if-o-count.false

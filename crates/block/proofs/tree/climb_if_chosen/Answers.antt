use native.Mathlib.Omega.{arith}
use mathlib.Core.Path.{sym, ◌∙◌}
use Rattle.block.proofs.HeapLaws.{level-start, level-small}
use Rattle.block.proofs.ClimbsLaws.{mark-chosen, one-passed, one-chosen}
use Rattle.block.proofs.tree.climb_if_chosen.Goals as goal

pub overflow_add-top : goal.overflow_add-top
overflow_add-top c =
    let w = level-small _ _ _ (level-start _ _ c.requires.2) c.requires.0 c.requires.1 in
    omega arith

pub is_marked-requires : goal.is_marked-requires
is_marked-requires c =
    let w = level-small _ _ _ (level-start _ _ c.requires.2) c.requires.0 c.requires.1 in
    omega arith

pub returns-then-not-is_marked : goal.returns-then-not-is_marked
returns-then-not-is_marked c = λ ch g m. one-passed _ _ _ (sym (mark-chosen _ _ _ _ _ m c.requires.0 c.requires.2 c.requires.3) ∙ sym c.is_marked.ensures ∙ c.if-not-is_marked.true)

pub climb_from-requires : goal.climb_from-requires
climb_from-requires c =
    let w = level-small _ _ _ (level-start _ _ c.requires.2) c.requires.0 c.requires.1 in
    (c.requires.1, c.requires.2, omega arith)

pub returns : goal.returns
returns c =
    λ ch g m.
    c.climb_from.ensures g c.requires.4
    ∙ one-chosen _ _ _ (sym (mark-chosen _ _ _ _ _ m c.requires.0 c.requires.2 c.requires.3) ∙ sym c.is_marked.ensures ∙ c.if-not-is_marked.false)

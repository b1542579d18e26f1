use mathlib.Core.Logic.{inl, inr}
use Rattle.merging.proofs.ChoiceLaws.{left-none, left_there}
use Rattle.merging.proofs.uniting.left_spot.Goals as goal
use Rattle.merging.proofs.uniting.left_spot.Goals.{then-offset-eq0-via-then-offset-eq0, then-offset-eq0-via-else-offset-eq0+then-last-offset}

pub returns-then-offset-eq0 : goal.returns-then-offset-eq0
returns-then-offset-eq0 c =
    elim c.then-offset-eq0.branch [
      | then-offset-eq0-via-then-offset-eq0 w ↦ left-none _ _ _ (inl w.if-offset-eq0.true)
      | then-offset-eq0-via-else-offset-eq0+then-last-offset w ↦ left-none _ _ _ (inr w.if-last-offset.true)
    ]

pub returns : goal.returns
returns c = left_there _ _ _ c.if-offset-eq0.false c.if-last-offset.false

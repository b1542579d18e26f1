use native.Mathlib.Omega.{arith}
use Rattle.stream.proofs.Outputs.{outputs_skip}
use Rattle.stream.proofs.walk.pass_outputs.Goals as goal

pub returns-then-not-at_start : goal.returns-then-not-at_start
returns-then-not-at_start c = (c.requires, λ h. absurd (omega (arith, h)))

pub overflow_sub-f : goal.overflow_sub-f
overflow_sub-f c = (c.at_start.ensures c.if-not-at_start.false).1

pub returns : goal.returns
returns c =
    let a = c.at_start.ensures c.if-not-at_start.false in
    (omega (arith, c.whole_outputs.ensures.1, c.min-room.ensures), λ h. outputs_skip _ _ _ _ _ _ _ a.0 (omega (arith, c.min-room.ensures, a.1)) c.whole_outputs.ensures.1 c.whole_outputs.ensures.2)

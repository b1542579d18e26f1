use Rattle.std.proofs.Common.{◌∙◌}
use Rattle.lanes.proofs.Turns.{lane-accepted}
use Rattle.lanes.proofs.messages.sha256d4.Goals as goal

pub returns-then-d-le-MAX_INPUT : goal.returns-then-d-le-MAX_INPUT
returns-then-d-le-MAX_INPUT c =
    λ l. c.hashes.ensures l
    ∙ lane-accepted l c.args.a.now c.args.b.now c.args.c.now c.args.d.now c.if-a-le-MAX_INPUT.true c.if-b-le-MAX_INPUT.true c.if-c-le-MAX_INPUT.true c.if-d-le-MAX_INPUT.true

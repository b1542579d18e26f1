-- A lane's message, and then its digest.
use Rattle.std.proofs.Common.{◌∙◌}
use Rattle.lanes.specs.Lanes.{in_lane, lane}
use Rattle.lanes.proofs.Turns.{hashed-twice}
use Rattle.lanes.proofs.messages.hashes.Goals as goal

pub returns : goal.returns
returns c =
    λ l. c.digests.ensures l
    ∙ hashed-twice (in_lane l c.args.a.now c.args.b.now c.args.c.now c.args.d.now) (lane l c.finish4-inner.result) (lane l c.compress4.result) (c.finish4-inner.ensures l)
    (rw (c.initial.ensures l, c.digest_block.ensures l) at (c.compress4.ensures l))

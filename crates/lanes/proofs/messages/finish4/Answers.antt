use Rattle.std.proofs.Common.{◌∙◌}
use Rattle.hash.specs.Sha256.{hash_value}
use Rattle.lanes.specs.Lanes.{in_lane}
use Rattle.lanes.proofs.SideBySide.{lane-map}
use Rattle.lanes.proofs.messages.finish4.Goals as goal

pub finish-requires : goal.finish-requires
unfolding in_lane
finish-requires c = (c.requires.0.0, c.apart.ensures.0 ∙ c.requires.1 0)

pub finish-requires-2 : goal.finish-requires-2
unfolding in_lane
finish-requires-2 c = (c.requires.0.1, c.apart.ensures.1 ∙ c.requires.1 1)

pub finish-requires-3 : goal.finish-requires-3
unfolding in_lane
finish-requires-3 c = (c.requires.0.2, c.apart.ensures.2 ∙ c.requires.1 2)

pub finish-requires-4 : goal.finish-requires-4
unfolding in_lane
finish-requires-4 c = (c.requires.0.3, c.apart.ensures.3 ∙ c.requires.1 3)

pub returns : goal.returns
returns c =
    λ l. c.values.ensures l
    ∙ rw (c.finish.ensures, c.finish-2.ensures, c.finish-3.ensures, c.finish-4.ensures) (lane-map hash_value l c.args.a.now c.args.b.now c.args.c.now c.args.d.now)

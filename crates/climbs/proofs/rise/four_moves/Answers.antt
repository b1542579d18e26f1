use Rattle.climbs.proofs.RiseLaws.{lanes_are, move-joins}
use Rattle.climbs.proofs.rise.four_moves.Goals as goal

pub returns-then-twice : goal.returns-then-twice
returns-then-twice c =
    let e = lanes_are _ _ _ _ _ c.lane_parents-parents.ensures in
    (move-joins _ _ _ c.in-Some-Some-Some.ensures e.0, move-joins _ _ _ c.in-Some-Some-Some.ensures' e.1, move-joins _ _ _ c.in-Some-Some-Some.ensures'' e.2, c.move_of-then-twice.ensures)

pub returns : goal.returns
returns c =
    let e = lanes_are _ _ _ _ _ c.lane_parents-parents-2.ensures in
    (move-joins _ _ _ c.in-Some-Some-Some.ensures e.0, move-joins _ _ _ c.in-Some-Some-Some.ensures' e.1, move-joins _ _ _ c.in-Some-Some-Some.ensures'' e.2, move-joins _ _ _ c.in-Some.ensures e.3)

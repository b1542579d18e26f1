use Rattle.std.proofs.Common.{refl}
use Rattle.climbs.proofs.RiseLaws.{stays_right}
use Rattle.climbs.proofs.rise.other_turn.Goals as goal

pub returns-then-row-beside : goal.returns-then-row-beside
returns-then-row-beside c = stays_right _ _ _ _ _ _ _ refl

pub returns : goal.returns
returns c = c.written_turn.ensures

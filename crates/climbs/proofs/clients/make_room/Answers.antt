use Rattle.std.proofs.Common.{◌∙◌}
use Rattle.climbs.proofs.WaitingLaws.{err_is, rows_none}
use Rattle.climbs.proofs.clients.make_room.Goals as goal

pub returns-in_err-wanted : goal.returns-in_err-wanted
returns-in_err-wanted c = rw (err_is _ _ c.from_residual.ensures.1) c.in_err-wanted.ensures

pub returns : goal.returns
returns c = (c.requires.1.some, rows_none _ _ _ _ _ ∙ c.in_ok-wanted.ensures)

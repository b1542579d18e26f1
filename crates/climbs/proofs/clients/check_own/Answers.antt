use Rattle.std.proofs.Common.{ap, ◌∙◌, arith}
use Rattle.climbs.specs.ClientsShapes.{checked_of}
use Rattle.climbs.proofs.WaitingLaws.{own_clients}
use Rattle.climbs.proofs.clients.check_own.Goals as goal

pub returns : goal.returns
returns c = c.check_many.ensures ∙ ap checked_of (own_clients c.args.s.now c.args.path c.args.s.now _ _ _ c.requires (omega arith))

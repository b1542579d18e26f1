use Rattle.spv.specs.Siblings.{path_siblings}
use Rattle.spv.specs.Shapes.{bound_to}
use Rattle.spv.specs.Result.{accepted}
use Rattle.spv.specs.Prove.{any}
use Rattle.climbs.proofs.WaitingLaws.{Checking}
use Rattle.climbs.proofs.clients.check_few.Given as goal

abbrev pub invariant-loop : goal.invariant-loop
invariant-loop l = Checking (path_siblings l.s l.path) l.path.layers l.s l.count l.initial.next.at (accepted any) l.counter l.next.at (accepted (bound_to l.wanted))

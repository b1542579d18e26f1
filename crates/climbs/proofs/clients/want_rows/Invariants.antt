use Rattle.std.proofs.Common.{◌≡◌, ◌≤◌}
use Rattle.spv.specs.Result.{accepted}
use Rattle.climbs.specs.ClientsShapes.{pending}
use Rattle.spv.specs.Shapes.{bound_to}
use Rattle.climbs.specs.Row.{came_at}
use Rattle.climbs.proofs.clients.want_rows.Given as goal

abbrev pub invariant-loop-i : goal.invariant-loop-i
invariant-loop-i l = (l.i ≤ l.count) × (accepted (bound_to l.wanted) ≡ pending (came_at l.starts l.states l.hashes) l.i (accepted (bound_to l.initial.wanted)))

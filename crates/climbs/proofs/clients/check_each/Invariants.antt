use Rattle.std.proofs.Common.{◌≡◌, ◌<◌, length}
use Rattle.spv.specs.Result.{accepted}
use Rattle.spv.specs.Values.{worked_out}
use Rattle.climbs.specs.LookUp.{looked_up}
use Rattle.spv.specs.Shapes.{bound_to}
use Rattle.climbs.specs.Waiting.{rows_say}
use Rattle.climbs.proofs.WaitingLaws.{Checking}
use Rattle.climbs.proofs.clients.check_each.Given as goal

abbrev pub invariant-loop : goal.invariant-loop
invariant-loop l = Checking (worked_out (looked_up l.s l.path.at l.t l.others)) l.path.layers l.u l.count l.initial.next.at (accepted (bound_to l.initial.wanted)) l.counter l.next.at (rows_say (worked_out (looked_up l.s l.path.at l.t l.others)) l.path.layers l.starts l.hashes l.rows (accepted (bound_to l.wanted))) × (l.rows < length l.starts) × (length l.starts ≡ length l.initial.starts) × (length l.order ≡ length l.initial.order) × (length l.states ≡ length l.initial.states) × (length l.hashes ≡ length l.initial.hashes)

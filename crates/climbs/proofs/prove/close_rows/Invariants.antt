use Rattle.std.proofs.Common.{◌≡◌, ◌*◌, ◌≤◌, length}
use Rattle.climbs.specs.Begun.{Closed}
use Rattle.climbs.proofs.prove.close_rows.Given as goal

abbrev pub invariant-loop-i : goal.invariant-loop-i
invariant-loop-i l = Closed l.i l.initial.states l.initial.hashes l.states l.hashes × (length l.states ≡ length l.initial.states) × (length l.hashes ≡ length l.initial.hashes) × (l.i ≤ length l.initial.states) × (32 * length l.initial.states ≤ length l.initial.hashes)

use Rattle.std.proofs.Common.{◌≡◌, ◌≤◌, length}
use Rattle.climbs.specs.Pass.{AllStepped, Charged}
use Rattle.climbs.proofs.pass.step_rows.Given as goal

abbrev pub invariant-loop-i : goal.invariant-loop-i
invariant-loop-i l = (length l.states ≡ length l.initial.states) × (length l.hashes ≡ length l.initial.hashes) × (l.lo ≤ l.i) × (l.i ≤ l.hi) × AllStepped l.starts l.order l.initial.states l.initial.hashes l.states l.hashes l.layer l.left l.lo l.i l.l l.r × Charged l.starts l.initial.states l.initial.hashes l.initial.costs l.states l.hashes l.costs l.layer l.left l.l l.r × (length l.costs ≡ length l.initial.costs)

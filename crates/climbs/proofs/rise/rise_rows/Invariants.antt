use Rattle.std.proofs.Common.{◌≡◌, ◌-◌, length}
use Rattle.climbs.specs.LookUp.{looked_up}
use Rattle.spv.specs.Values.{worked_out}
use Rattle.climbs.specs.Row.{Moved}
use Rattle.climbs.specs.Spent.{Spent}
use Rattle.climbs.proofs.rise.rise_rows.Given as goal

abbrev pub invariant-loop-row : goal.invariant-loop-row
invariant-loop-row l = (length l.states ≡ length l.initial.states) × (length l.hashes ≡ length l.initial.hashes) × (l.n ≡ length l.starts) × Moved (worked_out (looked_up l.s l.places l.t l.others)) l.layers l.starts l.initial.states l.initial.hashes l.states l.hashes × Spent (looked_up l.s l.places l.t l.others) l.layers l.starts l.initial.states l.initial.hashes l.initial.costs l.states l.hashes l.costs

abbrev pub decreases-loop-row : goal.decreases-loop-row
decreases-loop-row l = l.n - l.row

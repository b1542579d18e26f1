use Rattle.std.proofs.Common.{◌≡◌, ◌≤◌, length}
use Rattle.climbs.specs.LookUp.{looked_up}
use Rattle.spv.specs.Values.{worked_out}
use Rattle.climbs.specs.Row.{Moved}
use Rattle.climbs.specs.Spent.{Spent}
use Rattle.climbs.proofs.rise.rise4.Given as goal

abbrev pub invariant-loop-k : goal.invariant-loop-k
invariant-loop-k l = (length l.states ≡ length l.initial.states) × (length l.hashes ≡ length l.initial.hashes) × (l.k ≤ l.layers) × Moved (worked_out (looked_up l.s l.places l.t l.others)) l.layers l.starts l.initial.states l.initial.hashes l.states l.hashes × Spent (looked_up l.s l.places l.t l.others) l.layers l.starts l.initial.states l.initial.hashes l.initial.costs l.states l.hashes l.costs

use Rattle.std.proofs.Common.{◌≡◌, ◌-◌, ◌≤◌, length}
use Rattle.climbs.specs.LookUp.{looked_up}
use Rattle.spv.specs.Values.{worked_out}
use Rattle.climbs.specs.Row.{Moved, Reached}
use Rattle.climbs.specs.Spent.{Spent}
use Rattle.climbs.proofs.all.visit_trees.Given as goal

abbrev pub invariant-loop-lo : goal.invariant-loop-lo
invariant-loop-lo l = (length l.states ≡ length l.initial.states) × (length l.hashes ≡ length l.initial.hashes) × (l.lo ≤ length l.order) × Moved (worked_out (looked_up l.s l.places l.t l.others)) l.layers l.starts l.initial.states l.initial.hashes l.states l.hashes × Reached l.order l.states l.layers 0 l.lo × Spent (looked_up l.s l.places l.t l.others) l.layers l.starts l.initial.states l.initial.hashes l.initial.costs l.states l.hashes l.costs

abbrev pub decreases-loop-lo : goal.decreases-loop-lo
decreases-loop-lo l = length l.order - l.lo

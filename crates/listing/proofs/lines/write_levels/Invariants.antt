use mathlib.Core.Path.{◌≡◌}
use Prim.Native.Nat.{◌-◌, ◌≤◌}
use lib.ListN.{length}
use Rattle.encoding.specs.Buffer.{buffer}
use Rattle.listing.specs.Walk.{walk_levels}
use Rattle.listing.proofs.lines.write_levels.Given as goal

abbrev pub invariant-loop-level : goal.invariant-loop-level
invariant-loop-level l = (walk_levels l.s l.height 0 l.initial.next.at (buffer l.initial.out l.initial.at) ≡ walk_levels l.s (l.height - l.level) l.level l.next.at (buffer l.out l.at)) × (l.level ≤ l.height) × (length l.out ≡ length l.initial.out)

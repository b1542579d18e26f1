use mathlib.Core.Path.{◌≡◌}
use Prim.Native.Nat.{◌-◌, ◌≤◌}
use lib.ListN.{length}
use Rattle.encoding.specs.Buffer.{buffer}
use Rattle.listing.specs.Walk.{walk_leaves}
use Rattle.listing.proofs.lines.write_leaves.Given as goal

abbrev pub invariant-loop : goal.invariant-loop
invariant-loop l = (walk_leaves l.s l.count l.initial.next.at (buffer l.initial.out l.initial.at) ≡ walk_leaves l.s (l.count - l.counter) l.next.at (buffer l.out l.at)) × (l.counter ≤ l.count) × (length l.out ≡ length l.initial.out)

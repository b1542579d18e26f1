use lib.ListN.{length, drop}
use Prim.Native.Nat.{◌-◌, ◌≤◌}
use mathlib.Core.Path.{◌≡◌}
use Rattle.levels.specs.Fronts.{standing_of}
use Rattle.levels.specs.Places.{entries}
use Rattle.levels.specs.Standing.{nothing}
use Rattle.encoding.specs.BumpBytes.{entry_bytes}
use Rattle.encoding.specs.Buffer.{buffer, write_on}
use Rattle.encoding.specs.Encode.{encode_all}
use Rattle.merging.specs.Merging.{kept_of}
use Rattle.merging.specs.Walk.{walk_spots}
use Rattle.merging.proofs.uniting.put_leaves.Given as goal

abbrev pub invariant-loop : goal.invariant-loop
invariant-loop l = (write_on (buffer l.initial.out l.initial.at) (encode_all entry_bytes (kept_of (walk_spots 2048 0 nothing nothing (entries l.s l.x) (entries l.t l.y)))) ≡ write_on (buffer l.out l.at) (encode_all entry_bytes (kept_of (walk_spots (2048 - l.counter) l.last (standing_of l.s l.first) (standing_of l.t l.second) (entries l.s (drop l.i l.x)) (entries l.t (drop l.j l.y)))))) × (l.counter ≤ 2048) × (length l.out ≡ length l.initial.out)

use mathlib.Core.Path.{◌≡◌}
use Prim.Native.Nat.{◌-◌, ◌≤◌}
use lib.ListN.{length, take}
use Rattle.listing.specs.Text.{printed}
use Rattle.encoding.specs.Buffer.{buffer, write_on}
use Rattle.listing.proofs.text.write_hash.Given as goal

abbrev pub invariant-loop-i : goal.invariant-loop-i
invariant-loop-i l = (write_on (buffer l.initial.out l.at) (printed l.hash) ≡ write_on (buffer l.out l.next) (printed (take (32 - l.i) l.hash))) × (l.i ≤ 32) × (length l.out ≡ length l.initial.out)

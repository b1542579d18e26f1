use mathlib.Core.Path.{◌≡◌}
use Prim.Native.Nat.{◌≤◌}
use lib.ListN.{length}
use Rattle.encoding.specs.Buffer.{buffer}
use Rattle.conversion.proofs.ConvertLaws.{Writing}
use Rattle.conversion.proofs.from_tsc.write_levels.Given as goal

abbrev pub invariant-loop : goal.invariant-loop
invariant-loop l = Writing l.s l.n l.initial.place.at l.i (buffer l.initial.out l.at) l.counter l.place.at l.j (buffer l.out l.next) × (l.counter ≤ l.n) × (length l.out ≡ length l.initial.out)

use lib.ListN.{length}
use Prim.Native.Nat.{◌-◌, ◌≤◌}
use Rattle.encoding.specs.Buffer.{buffer, write_on}
use Rattle.encoding.specs.Encode.{encode_all}
use Rattle.merging.specs.Levels.{walk_levels, level_text}
use mathlib.Core.Path.{◌≡◌}
use Rattle.merging.proofs.joining.put_levels.Given as goal

abbrev pub invariant-loop : goal.invariant-loop
invariant-loop l = (write_on (buffer l.initial.out l.initial.at) (encode_all level_text (walk_levels l.s l.t l.height l.initial.p.at l.initial.q.at)) ≡ write_on (buffer l.out l.at) (encode_all level_text (walk_levels l.s l.t (l.height - l.counter) l.p.at l.q.at))) × (l.counter ≤ l.height) × (length l.out ≡ length l.initial.out)

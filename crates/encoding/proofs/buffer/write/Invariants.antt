use mathlib.Core.Path.{◌≡◌}
use lib.ListN.{drop}
use Rattle.encoding.specs.Buffer.{buffer, write_on}
use Rattle.encoding.proofs.buffer.write.Given as goal

abbrev pub invariant-loop-b : goal.invariant-loop-b
invariant-loop-b l = write_on (buffer l.initial.out l.at) l.text ≡ write_on (buffer l.out l.next) (drop l.b-index l.text)

use mathlib.Core.Path.{◌≡◌}
use Prim.Native.Nat.{◌≤◌, ◌-◌}
use lib.ListN.{length}
use Rattle.encoding.specs.Buffer.{buffer, write_on}
use Rattle.block.specs.Leaves.{form_at, text_at, text_from}
use Rattle.block.proofs.level.write_leaves.Given as goal

abbrev pub invariant-loop-o : goal.invariant-loop-o
invariant-loop-o l = (write_on (buffer l.initial.out l.at) (text_from (λ o. text_at l.ids l.heap l.base l.width o (form_at l.marks l.base l.width l.count o)) 0 l.width) ≡ write_on (buffer l.out l.next) (text_from (λ o. text_at l.ids l.heap l.base l.width o (form_at l.marks l.base l.width l.count o)) l.o (l.width - l.o))) × (l.o ≤ l.width) × (length l.out ≡ length l.initial.out)

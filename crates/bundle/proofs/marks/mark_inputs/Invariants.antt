use mathlib.Core.Path.{◌≡◌}
use lib.ListN.{length}
use Rattle.spv.specs.Hashes.{hashes_of, Distinct}
use Rattle.bundle.proofs.FlatLaws.{Marking}
use Rattle.bundle.proofs.marks.mark_inputs.Given as goal

abbrev pub invariant-loop : goal.invariant-loop
invariant-loop l = (length l.marks ≡ length l.initial.marks) × (Distinct (hashes_of l.ids) → Marking l.s (hashes_of l.ids) l.firsts l.base l.k l.count l.initial.next.at l.initial.marks l.marks l.again l.counter l.next.at)

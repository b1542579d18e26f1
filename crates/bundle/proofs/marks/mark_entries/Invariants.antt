use mathlib.Core.Path.{◌≡◌}
use lib.ListN.{length}
use Rattle.spv.specs.Hashes.{hashes_of, Distinct}
use Rattle.bundle.proofs.FlatLaws.{Passing}
use Rattle.bundle.proofs.marks.mark_entries.Given as goal

abbrev pub invariant-loop-k : goal.invariant-loop-k
invariant-loop-k l = (length l.marks ≡ length l.initial.marks) × (Distinct (hashes_of l.ids) → Passing l.s (hashes_of l.ids) l.numbers l.firsts l.base l.n l.initial.marks l.first-2 l.marks l.first l.k)

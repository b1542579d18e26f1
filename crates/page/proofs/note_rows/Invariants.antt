use mathlib.Core.Path.{◌≡◌}
use lib.ListN.{length, get_or}
use Rattle.page.specs.Flat.{Noted}
use Rattle.page.proofs.note_rows.Given as goal

abbrev pub invariant-loop-row : goal.invariant-loop-row
invariant-loop-row l = (length l.numbers ≡ length l.initial.numbers) × Noted l.states (get_or l.initial.numbers 512 0) l.row l.initial.numbers l.numbers

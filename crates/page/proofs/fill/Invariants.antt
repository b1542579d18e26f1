-- The first i elements are written, and behind them is what was there.
use Rattle.std.proofs.Common.{◌≡◌, ◌≤◌, length}
use Rattle.spv.proofs.Filled.{up_to}
use Rattle.page.specs.Flat.{flat_answer}
use Rattle.page.proofs.fill.Given as goal

abbrev pub invariant-loop-i : goal.invariant-loop-i
invariant-loop-i l = (l.i ≤ length l.initial.row) × (l.row ≡ up_to (flat_answer l.roots l.numbers l.count) l.initial.row l.i)

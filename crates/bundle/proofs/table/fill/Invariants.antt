-- The first i elements are written, and behind them is what was there.
use Rattle.std.proofs.Common.{◌≡◌, ◌≤◌, length}
use Rattle.spv.proofs.Filled.{up_to}
use Rattle.bundle.specs.Table.{flat_record}
use Rattle.bundle.proofs.table.fill.Given as goal

abbrev pub invariant-loop-i : goal.invariant-loop-i
invariant-loop-i l =
    (l.i ≤ length l.initial.table) × (l.table ≡ up_to (flat_record l.ids l.numbers l.count) l.initial.table l.i)

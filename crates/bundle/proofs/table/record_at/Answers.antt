use mathlib.Core.Path.{◌∙◌}
use native.Mathlib.Omega.{arith}
use lib.ListN.{length}
use borrow.Author.Tests.{lt-ltb, le-ltb, le-leb}
use Rattle.bundle.specs.Table.{NUMBERS_ROOM, flat_record}
use Rattle.bundle.proofs.table.record_at.Goals as goal

pub returns-then-count-row : goal.returns-then-count-row
unfolding flat_record
returns-then-count-row c = c.blank.ensures ∙ simp (le-ltb _ _ c.if-count-row.true)

pub returns-then-row-ge-MAX_TRANSACTIONS : goal.returns-then-row-ge-MAX_TRANSACTIONS
unfolding flat_record
returns-then-row-ge-MAX_TRANSACTIONS c = c.blank-then-row-ge-MAX_TRANSACTIONS.ensures ∙ simp (lt-ltb _ _ c.if-count-row.false, le-ltb _ _ c.if-row-ge-MAX_TRANSACTIONS.true)

pub returns : goal.returns
unfolding flat_record
returns c = rw c.hash_at-id.ensures (simp (lt-ltb _ _ c.if-count-row.false, lt-ltb _ _ c.if-row-ge-MAX_TRANSACTIONS.false, le-leb NUMBERS_ROOM (length c.args.numbers.now) (omega arith)))

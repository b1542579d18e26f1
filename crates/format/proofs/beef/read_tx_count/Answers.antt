use mathlib.Core.Path.{sym, ◌∙◌}
use borrow.Author.Tests.{le-leb, lt-leb}
use Rattle.format.proofs.ParseLaws.{passed_on}
use Rattle.format.specs.Beef.{tx_count_field}
use Rattle.format.proofs.beef.read_tx_count.Goals as goal

pub returns-in_err-count : goal.returns-in_err-count
unfolding tx_count_field
returns-in_err-count c =
    passed_on _ _ c.from_residual.ensures.1 ∙ (simp (sym c.in_err-count.ensures))

pub returns-then-count-gt-MAX_TRANSACTIONS : goal.returns-then-count-gt-MAX_TRANSACTIONS
unfolding tx_count_field
returns-then-count-gt-MAX_TRANSACTIONS c = simp (sym c.in_ok-count.ensures, lt-leb _ _ c.if-count-gt-MAX_TRANSACTIONS.true)

pub returns-then-count-lt1 : goal.returns-then-count-lt1
unfolding tx_count_field
returns-then-count-lt1 c = simp (sym c.in_ok-count.ensures, le-leb _ _ c.if-count-gt-MAX_TRANSACTIONS.false, lt-leb _ _ c.if-count-lt1.true)

pub returns-then-room-count : goal.returns-then-room-count
unfolding tx_count_field
returns-then-room-count c = simp (sym c.in_ok-count.ensures, le-leb _ _ c.if-count-gt-MAX_TRANSACTIONS.false, le-leb _ _ c.if-count-lt1.false, lt-leb _ _ c.if-room-count.true)

pub returns : goal.returns
unfolding tx_count_field
returns c = simp (sym c.in_ok-count.ensures, le-leb _ _ c.if-count-gt-MAX_TRANSACTIONS.false, le-leb _ _ c.if-count-lt1.false, le-leb _ _ c.if-room-count.false)

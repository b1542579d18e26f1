use Rattle.format.proofs.TransactionLaws.{taken-any, taken_over, taken_by}
use mathlib.Core.Path.{ap}
use mathlib.Core.Bool.{not}
use Rattle.format.proofs.transaction.is_taken.Goals as goal

pub returns-then-not-limited : goal.returns-then-not-limited
returns-then-not-limited c = taken-any _ _ _ (ap not c.if-not-limited.true)

pub returns-then-amount-gt-MAX_TOTAL : goal.returns-then-amount-gt-MAX_TOTAL
returns-then-amount-gt-MAX_TOTAL c = taken_over _ _ _ (ap not c.if-not-limited.false) c.if-amount-gt-MAX_TOTAL.true

pub returns : goal.returns
returns c = taken_by _ _ _ (ap not c.if-not-limited.false) c.if-amount-gt-MAX_TOTAL.false

use native.Mathlib.Omega.{arith}
use Rattle.format.proofs.TransactionLaws.{taken-total, unlimited}
use mathlib.Core.Path.{ap}
use mathlib.Core.Bool.{not}
use Rattle.format.proofs.transaction.add_amount.Goals as goal

pub returns-then-not-limited : goal.returns-then-not-limited
returns-then-not-limited c is e = absurd (unlimited _ (ap not c.if-not-limited.true) is)

pub returns-then-amount-gt-MAX_TOTAL : goal.returns-then-amount-gt-MAX_TOTAL
returns-then-amount-gt-MAX_TOTAL c is e = absurd (let t = taken-total _ _ _ is e in omega arith)

pub returns-then-amount-total : goal.returns-then-amount-total
returns-then-amount-total c is e = absurd (let t = taken-total _ _ _ is e in omega arith)

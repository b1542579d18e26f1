use native.Mathlib.Omega.{arith}
use mathlib.Core.Path.{sym}
use Rattle.format.specs.Field.{le4}
use Rattle.format.proofs.FieldLaws.{long_short, long_over, long-value}
use Rattle.format.proofs.field.long_four.Goals as goal

pub returns-then-s-at-lt5 : goal.returns-then-s-at-lt5
returns-then-s-at-lt5 c = sym (long_short le4 4 65536 _ _ (omega arith) (omega arith))

pub returns-then-v-lt65536 : goal.returns-then-v-lt65536
returns-then-v-lt65536 c = sym (long_over le4 4 65536 _ _ (omega arith) (omega arith))

pub returns : goal.returns
returns c = simp c.four-v.ensures.0 (sym (long-value le4 4 65536 _ _ _ (omega arith) (omega arith) (omega arith)))

use native.Mathlib.Omega.{arith}
use mathlib.Core.Path.{sym}
use Rattle.format.specs.Field.{le2}
use Rattle.format.proofs.FieldLaws.{long_short, long_over, long-value}
use Rattle.format.proofs.field.long_two.Goals as goal

pub returns-then-s-at-lt3 : goal.returns-then-s-at-lt3
returns-then-s-at-lt3 c = sym (long_short le2 2 253 _ _ (omega arith) (omega arith))

pub returns-then-v-lt253 : goal.returns-then-v-lt253
returns-then-v-lt253 c = sym (long_over le2 2 253 _ _ (omega arith) (omega arith))

pub returns : goal.returns
returns c = simp c.two-v.ensures.0 (sym (long-value le2 2 253 _ _ _ (omega arith) (omega arith) (omega arith)))

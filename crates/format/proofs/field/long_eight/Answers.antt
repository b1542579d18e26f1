use native.Mathlib.Omega.{arith}
use mathlib.Core.Path.{sym}
use Rattle.format.specs.Field.{le8}
use Rattle.format.proofs.FieldLaws.{long_short, long_over, long-value}
use Rattle.format.proofs.field.long_eight.Goals as goal

pub returns-then-s-at-lt9 : goal.returns-then-s-at-lt9
returns-then-s-at-lt9 c = sym (long_short le8 8 4294967296 _ _ (omega arith) (omega arith))

pub returns-then-v-lt4294967296 : goal.returns-then-v-lt4294967296
returns-then-v-lt4294967296 c = sym (long_over le8 8 4294967296 _ _ (omega arith) (omega arith))

pub returns : goal.returns
returns c = simp c.eight-v.ensures (sym (long-value le8 8 4294967296 _ _ _ (omega arith) (omega arith) (omega arith)))

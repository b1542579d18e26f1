use native.Mathlib.Omega.{arith}
use mathlib.Core.Path.{sym, ◌∙◌}
use Rattle.format.proofs.FieldLaws.{varint-none, varint-announced, varint-small}
use Rattle.format.proofs.field.read_varint.Goals as goal

pub returns-then-s-at : goal.returns-then-s-at
returns-then-s-at c = sym (varint-none _ _ (omega arith))

pub returns-then-first-lt253 : goal.returns-then-first-lt253
returns-then-first-lt253 c = sym (varint-small _ _ _ (omega arith) (omega arith) c.if-first-lt253.true)

pub returns-then-first-eq253 : goal.returns-then-first-eq253
returns-then-first-eq253 c = c.long_two.ensures ∙ sym (varint-announced _ _ 253 (omega arith) (omega arith))

pub returns-then-first-eq254 : goal.returns-then-first-eq254
returns-then-first-eq254 c = c.long_four.ensures ∙ sym (varint-announced _ _ 254 (omega arith) (omega arith))

pub returns : goal.returns
returns c = c.long_eight.ensures ∙ sym (varint-announced _ _ 255 (omega arith) (omega arith))

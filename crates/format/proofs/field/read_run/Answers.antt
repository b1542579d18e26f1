use native.Mathlib.Omega.{arith}
use mathlib.Core.Path.{sym}
use Rattle.format.proofs.FieldLaws.{bytes_short, bytes-here}
use Rattle.format.proofs.field.read_run.Goals as goal

pub returns-then-s-at : goal.returns-then-s-at
returns-then-s-at c = sym (bytes_short _ _ _ (omega arith))

pub returns-then-s-at-2 : goal.returns-then-s-at-2
returns-then-s-at-2 c = sym (bytes_short _ _ _ (omega arith))

pub returns : goal.returns
returns c = sym (bytes-here _ _ _ (omega arith))

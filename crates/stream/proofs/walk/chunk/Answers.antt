use mathlib.Core.Path.{◌∙◌, sym}
use Rattle.stream.proofs.Leaps.{leap_one, leap_run}
use Rattle.stream.specs.Parts.{MAX_PARTS}
use native.Mathlib.Omega.{arith}
use Rattle.stream.proofs.walk.chunk.Goals as goal

pub returns-then-f-ge-MAX_PARTS : goal.returns-then-f-ge-MAX_PARTS
returns-then-f-ge-MAX_PARTS c = (omega arith, omega arith, omega arith, leap_one MAX_PARTS _)

pub returns : goal.returns
returns c = (
  omega arith,
  omega arith,
  omega arith,
  leap_run MAX_PARTS c.args.f (sym c.is_end.ensures ∙ c.if-is_end.false) (sym c.is_number.ensures ∙ c.if-is_number.false) c.min-2.result (omega arith) (omega arith) (omega arith),
)

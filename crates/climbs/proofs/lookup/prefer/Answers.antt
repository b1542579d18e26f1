use Rattle.std.proofs.Common.{sym, ap, ◌∙◌}
use Rattle.spv.specs.Shapes.{sibling_of}
use Rattle.climbs.proofs.LookUpLaws.{prefer-hash, prefer-value, prefer-copy, prefer-absent}
use Rattle.climbs.proofs.lookup.prefer.Goals as goal

pub returns-then-has_value : goal.returns-then-has_value
returns-then-has_value c = prefer-hash (sibling_of c.args.a) (sibling_of c.args.b) (ap sibling_of c.in-Copied.is) (sym c.has_value.ensures ∙ c.if-has_value.true)

pub returns-in-Value : goal.returns-in-Value
returns-in-Value c = prefer-value (sibling_of c.args.a) (sibling_of c.args.b) _ (ap sibling_of c.in-Value.is)

pub returns-else-has_value : goal.returns-else-has_value
returns-else-has_value c = prefer-copy (sibling_of c.args.a) (sibling_of c.args.b) (ap sibling_of c.in-Copied.is) (sym c.has_value.ensures ∙ c.if-has_value.false)

pub returns-in-Absent : goal.returns-in-Absent
returns-in-Absent c = prefer-absent (sibling_of c.args.a) (sibling_of c.args.b) (ap sibling_of c.in-Absent.is)

use Rattle.std.proofs.Common.{sym, ap, ◌∙◌}
use Rattle.spv.specs.Shapes.{sibling_of}
use Rattle.climbs.proofs.PassLaws.{children-value, children-copied, children-absent}
use Rattle.climbs.proofs.pass.join_children.Goals as goal

pub returns-in-Value : goal.returns-in-Value
returns-in-Value c = c.join_both.ensures ∙ sym (children-value (sibling_of c.args.l) (sibling_of c.args.r) _ (ap sibling_of c.in-Value.is))

pub returns-in-Copied : goal.returns-in-Copied
returns-in-Copied c = c.join_both-in-Copied.ensures ∙ sym (children-copied (sibling_of c.args.l) (sibling_of c.args.r) (ap sibling_of c.in-Copied.is))

pub returns-in-Absent : goal.returns-in-Absent
returns-in-Absent c = sym (children-absent (sibling_of c.args.l) (sibling_of c.args.r) (ap sibling_of c.in-Absent.is))

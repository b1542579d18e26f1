use Rattle.std.proofs.Common.{ap, ◌∙◌}
use Rattle.spv.specs.Siblings.{sibling}
use Rattle.climbs.proofs.lookup.node_at.Goals as goal

pub returns-in-Some : goal.returns-in-Some
unfolding sibling
returns-in-Some c = c.written_node.ensures ∙ ap (sibling c.args.s.now) c.in-Some.ensures

pub returns-in-None : goal.returns-in-None
unfolding sibling
returns-in-None c = ap (sibling c.args.s.now) c.in-None.ensures

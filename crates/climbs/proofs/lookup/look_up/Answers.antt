use Rattle.std.proofs.Common.{sym, ◌∙◌, arith}
use Rattle.climbs.proofs.LookUpLaws.{looked_alone, looked_first, looked_both}
use Rattle.climbs.proofs.lookup.look_up.Goals as goal

pub returns-then-others-layer : goal.returns-then-others-layer
returns-then-others-layer c = looked_alone c.args.s.now c.args.places.now c.args.t.now c.args.others.now c.args.layer c.args.position _ c.node_at-first.ensures (omega (arith, c.if-others-layer.true))

pub returns-then-has_value : goal.returns-then-has_value
returns-then-has_value c = looked_first c.args.s.now c.args.places.now c.args.t.now c.args.others.now c.args.layer c.args.position _ c.node_at-first.ensures (sym c.has_value.ensures ∙ c.if-has_value.true)

pub returns : goal.returns
returns c = c.prefer.ensures ∙ looked_both c.args.s.now c.args.places.now c.args.t.now c.args.others.now c.args.layer c.args.position _ c.node_at-first.ensures _ c.node_at-second.ensures (omega (arith, c.if-others-layer.false))

use Rattle.std.proofs.Common.{refl, sym, ◌∙◌}
use Rattle.climbs.specs.LookUp.{looked_up}
use Rattle.climbs.proofs.PassLaws.{seen_unasked, seen_written, seen_nothing}
use Rattle.climbs.proofs.pass.written_at.Goals as goal

pub returns-then-not-want : goal.returns-then-not-want
returns-then-not-want c = seen_unasked (looked_up c.args.s.now c.args.places.now c.args.t.now c.args.others.now) c.args.layer c.args.position c.args.want _ c.if-not-want.true refl

pub returns-then-not-is_written : goal.returns-then-not-is_written
returns-then-not-is_written c = seen_nothing (looked_up c.args.s.now c.args.places.now c.args.t.now c.args.others.now) c.args.layer c.args.position c.args.want _ c.if-not-want.false c.look_up-node.ensures (sym c.is_written.ensures ∙ c.if-not-is_written.true)

pub returns : goal.returns
returns c = seen_written (looked_up c.args.s.now c.args.places.now c.args.t.now c.args.others.now) c.args.layer c.args.position c.args.want _ c.if-not-want.false c.look_up-node.ensures (sym c.is_written.ensures ∙ c.if-not-is_written.false)

use Rattle.std.proofs.Common.{Some, ap, ◌∙◌}
use Rattle.merging.specs.Walk.{kept_by}
use Rattle.merging.proofs.TallyLaws.{wrote_kept, wrote_none}
use Rattle.merging.proofs.uniting.put_kept.Goals as goal

pub returns-in_default : goal.returns-in_default
returns-in_default c = wrote_none _ _ (kept_by c.args.s.now c.args.t.now c.args.choice) (ap (kept_by c.args.s.now c.args.t.now) c.in_default.is)

pub returns-in-First : goal.returns-in-First
returns-in-First c = wrote_kept _ _ (kept_by c.args.s.now c.args.t.now c.args.choice) _ (ap (kept_by c.args.s.now c.args.t.now) (c.in-Some.is ∙ ap Some c.in-First.is)) c.write_varint-next.ensures c.put_kind.ensures

pub returns-in-Second : goal.returns-in-Second
returns-in-Second c = wrote_kept _ _ (kept_by c.args.s.now c.args.t.now c.args.choice) _ (ap (kept_by c.args.s.now c.args.t.now) (c.in-Some.is ∙ ap Some c.in-Second.is)) c.write_varint-next.ensures c.put_kind-in-Second.ensures

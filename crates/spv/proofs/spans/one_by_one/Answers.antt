use Rattle.spv.proofs.SpansLaws.{made_each}
use Rattle.spv.proofs.spans.one_by_one.Goals as goal

pub returns : goal.returns
returns c = made_each c.args.s.now c.args.a c.args.b c.args.c c.args.d _ _ _ _ c.span_hash-a.ensures c.span_hash-b.ensures c.span_hash-c.ensures c.span_hash-d.ensures

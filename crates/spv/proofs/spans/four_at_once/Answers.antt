use Rattle.spv.proofs.SpansLaws.{made_four}
use Rattle.spv.proofs.spans.four_at_once.Goals as goal

pub returns : goal.returns
returns c = made_four c.args.s.now c.args.a c.args.b c.args.c c.args.d c.sha256d4.result c.requires.inside c.requires.inside_2 c.requires.inside_3 c.requires.inside_4 c.sha256d4.ensures
